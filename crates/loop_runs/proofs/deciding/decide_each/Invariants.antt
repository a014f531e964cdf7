use Rattle.std.proofs.Common.{drop}
use Rattle.loop_runs.specs.Gathering.{levels_in}
use Rattle.loop_runs.proofs.Decided.{Settling}
use Rattle.loop_runs.proofs.deciding.decide_each.Given as goal

abbrev pub invariant-loop-core : goal.invariant-loop-core
invariant-loop-core l = Settling l.cores (drop l.core-index l.cores) (levels_in l.loops) (levels_in l.coming) l.held.items
