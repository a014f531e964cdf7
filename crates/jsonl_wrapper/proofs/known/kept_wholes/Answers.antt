use Rattle.std.proofs.Common.{◌≡◌, ap, length, refl, arith, rules}
use Rattle.jsonl_wrapper.specs.Wholes.{whole_readers}
use Rattle.jsonl_wrapper.specs.Tables.{readers_in}
use Rattle.jsonl_wrapper.proofs.WholeLaws.{range_within, range_there}
use Rattle.jsonl_wrapper.proofs.known.kept_wholes.Goals as goal

pub overflow_mul-result : goal.overflow_mul-result
overflow_mul-result c =
    let t = c.args.table.now in
    let width : c.count_wholes-width.result ≡ length (whole_readers (readers_in t)) = search rules in
    let within = range_within t c.args.at c.requires in
    let len = ap length c.deref-2.ensures.value in
    rw width (omega arith)

pub overflow_mul-result-2 : goal.overflow_mul-result-2
overflow_mul-result-2 c =
    let t = c.args.table.now in
    let width : c.count_wholes-width.result ≡ length (whole_readers (readers_in t)) = search rules in
    let within = range_within t c.args.at c.requires in
    let len = ap length c.deref-2.ensures.value in
    rw width (omega arith)

pub overflow_add-result : goal.overflow_add-result
overflow_add-result c =
    let t = c.args.table.now in
    let width : c.count_wholes-width.result ≡ length (whole_readers (readers_in t)) = search rules in
    let within = range_within t c.args.at c.requires in
    let len = ap length c.deref-2.ensures.value in
    rw width (omega arith)

pub offset_bounds-deref-at : goal.offset_bounds-deref-at
offset_bounds-deref-at c =
    let t = c.args.table.now in
    let width : c.count_wholes-width.result ≡ length (whole_readers (readers_in t)) = search rules in
    let within = range_within t c.args.at c.requires in
    let len = ap length c.deref-2.ensures.value in
    rw width (omega arith)

pub slice_bounds-result-end : goal.slice_bounds-result-end
slice_bounds-result-end c =
    let t = c.args.table.now in
    let width : c.count_wholes-width.result ≡ length (whole_readers (readers_in t)) = search rules in
    let within = range_within t c.args.at c.requires in
    let len = ap length c.deref-2.ensures.value in
    rw width (omega arith)

pub returns : goal.returns
returns c =
    let t = c.args.table.now in
    let width : c.count_wholes-width.result ≡ length (whole_readers (readers_in t)) = search rules in
    rw (width, c.deref-2.ensures.value) (range_there t c.args.at _ _ c.requires refl refl)
