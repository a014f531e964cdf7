use Rattle.std.proofs.Common.{◌≡◌, ap, length, refl, arith, rules}
use Rattle.jsonl_wrapper.specs.Wholes.{whole_readers}
use Rattle.jsonl_wrapper.specs.Tables.{readers_in}
use Rattle.jsonl_wrapper.proofs.WholeLaws.{places_within, places_rise, between_there}
use Rattle.jsonl_wrapper.proofs.known.wholes_between.Goals as goal

pub overflow_mul-result : goal.overflow_mul-result
overflow_mul-result c =
    let t = c.args.table.now in
    let width : c.count_wholes-width.result ≡ length (whole_readers (readers_in t)) = search rules in
    let within = places_within t c.args.to c.requires.within in
    let rise = places_rise t c.args.from c.args.to c.requires.ordered in
    let len = ap length c.deref-2.ensures.value in
    rw width (omega arith)

pub overflow_mul-result-2 : goal.overflow_mul-result-2
overflow_mul-result-2 c =
    let t = c.args.table.now in
    let width : c.count_wholes-width.result ≡ length (whole_readers (readers_in t)) = search rules in
    let within = places_within t c.args.to c.requires.within in
    let rise = places_rise t c.args.from c.args.to c.requires.ordered in
    let len = ap length c.deref-2.ensures.value in
    rw width (omega arith)

pub offset_bounds-deref-from : goal.offset_bounds-deref-from
offset_bounds-deref-from c =
    let t = c.args.table.now in
    let width : c.count_wholes-width.result ≡ length (whole_readers (readers_in t)) = search rules in
    let within = places_within t c.args.to c.requires.within in
    let rise = places_rise t c.args.from c.args.to c.requires.ordered in
    let len = ap length c.deref-2.ensures.value in
    rw width (omega arith)

pub slice_bounds-result-end : goal.slice_bounds-result-end
slice_bounds-result-end c =
    let t = c.args.table.now in
    let width : c.count_wholes-width.result ≡ length (whole_readers (readers_in t)) = search rules in
    let within = places_within t c.args.to c.requires.within in
    let rise = places_rise t c.args.from c.args.to c.requires.ordered in
    let len = ap length c.deref-2.ensures.value in
    rw width (omega arith)

pub returns : goal.returns
returns c =
    let t = c.args.table.now in
    let width : c.count_wholes-width.result ≡ length (whole_readers (readers_in t)) = search rules in
    rw (width, c.deref-2.ensures.value) (between_there t c.args.from c.args.to _ _ c.requires.ordered refl refl)
