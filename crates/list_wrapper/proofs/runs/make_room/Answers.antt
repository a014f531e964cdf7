use Rattle.std.proofs.Common.{◌≡◌, length, arith, rules}
use Rattle.list_wrapper.proofs.RunsOfRows.{total_is}
use Rattle.list_wrapper.proofs.runs.make_room.Goals as goal

pub begin_run-requires-clause-few : goal.begin_run-requires-clause-few
begin_run-requires-clause-few c =
    let runs = c.args.runs.now.items in
    let many : c.len-many.result ≡ length runs = search rules in
    let total = total_is runs c.deref.result.now c.len-many.result c.start_of-total.result c.deref.ensures.value many c.start_of-total.ensures in
    let fits = c.start_of-total.type_inv in
    let few = c.if-count-total.false in
    omega arith

pub widen-requires-clause-few : goal.widen-requires-clause-few
widen-requires-clause-few c =
    let runs = c.args.runs.now.items in
    let many : c.len-many.result ≡ length runs = search rules in
    let total = total_is runs c.deref.result.now c.len-many.result c.start_of-total.result c.deref.ensures.value many c.start_of-total.ensures in
    let fits = c.start_of-total.type_inv in
    let few = c.if-count-total.false in
    omega arith
