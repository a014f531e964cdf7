use Rattle.std.proofs.Common.{length}
use Rattle.loop_runs.proofs.Left.{Turning}
use Rattle.loop_runs.proofs.leaving.left_cores.Given as goal

abbrev pub invariant-loop-core : goal.invariant-loop-core
invariant-loop-core l = Turning l.fn.cores.items l.coming.rest.items l.out.items

abbrev pub decreases-loop-core : goal.decreases-loop-core
decreases-loop-core l = length l.coming.rest.items
