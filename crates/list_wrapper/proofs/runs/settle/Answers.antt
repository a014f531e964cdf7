use Rattle.std.proofs.Common.{◌≡◌, length, ap, arith, rules}
use Rattle.list_wrapper.proofs.RunsOfRows.{total_is}
use Rattle.list_wrapper.proofs.runs.settle.Goals as goal

pub recount-requires : goal.recount-requires
recount-requires c =
    let runs = c.args.runs.now.items in
    let many : c.len.result ≡ length runs = search rules in
    let total = total_is runs c.deref-2.result.now c.len.result c.start_of-count.result c.deref-2.ensures.value many c.start_of-count.ensures in
    let fits = c.start_of-count.type_inv in
    let same = ap length c.cut_last.ensures in
    omega arith
