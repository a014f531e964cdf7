use Rattle.std.proofs.Common.{arith, get_or, None}
use Rattle.med_value.specs.Datum.{tuple}
use Rattle.med_write.specs.Writing.{outcomes_of, value_for}
use Rattle.med_write.proofs.CellSteps.{step_cell, told_cell, read_twice}
use Rattle.med_write.proofs.cells.row_of_answer.Goals as goal

pub loop-place-preserved : goal.loop-place-preserved
loop-place-preserved c =
    let xs = c.args.places.now in
    let i = c.loop-place.place-index in
    step_cell (value_for (outcomes_of (tuple c.args.row.now))) xs i (get_or xs i None) c.loop-place.cells.items c.push_value.new.cells.items c.in-Ok.v (omega arith) (read_twice xs i _ _ (omega arith)) c.in-Ok.ensures c.in_ok-push_value.ensures.ok c.loop-place.invariant

pub returns-in-Err-clause-told : goal.returns-in-Err-clause-told
returns-in-Err-clause-told c =
    let xs = c.args.places.now in
    let i = c.loop-place.place-index in
    told_cell (value_for (outcomes_of (tuple c.args.row.now))) xs i (get_or xs i None) c.in-Err.fault (omega arith) (read_twice xs i _ _ (omega arith)) c.in-Err.ensures
