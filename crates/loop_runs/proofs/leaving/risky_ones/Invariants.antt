use Rattle.std.proofs.Common.{length}
use Rattle.loop_runs.proofs.Left.{Choosing}
use Rattle.loop_runs.proofs.leaving.risky_ones.Given as goal

abbrev pub invariant-loop-condition : goal.invariant-loop-condition
invariant-loop-condition l = Choosing l.fn.conditions.items l.left.rest.items l.out.items

abbrev pub decreases-loop-condition : goal.decreases-loop-condition
decreases-loop-condition l = length l.left.rest.items
