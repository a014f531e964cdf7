use Rattle.std.proofs.Common.{arith, option_map}
use Rattle.med_value.specs.Datum.{tuple}
use Rattle.tri_expr.specs.Tree.{tree}
use Rattle.med_write.proofs.CellSteps.{step_after, told_after}
use Rattle.med_write.proofs.cells.row_of_update.Goals as goal

pub loop-place-preserved : goal.loop-place-preserved
loop-place-preserved c = step_after (tuple c.args.row.now) (option_map tree) c.args.sets.now c.loop-place.place c.index-sets-place.result c.loop-place.cells.items c.push_value.new.cells.items c.in-Ok.v (omega arith) c.index-sets-place.is c.in-Ok.ensures c.in_ok-push_value.ensures.ok c.loop-place.invariant

pub returns-in-Err-clause-told : goal.returns-in-Err-clause-told
returns-in-Err-clause-told c = told_after (tuple c.args.row.now) (option_map tree) c.args.sets.now c.loop-place.place c.index-sets-place.result c.in-Err.fault (omega arith) c.index-sets-place.is c.in-Err.ensures
