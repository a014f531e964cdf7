use Rattle.std.proofs.Common.{drop}
use Rattle.pushdown.specs.Joins.{Each}
use Rattle.scan_loops.specs.Streamed.{IsStreamedCore}
use Rattle.loop_runs.proofs.deciding.are_streamed_cores.Given as goal

abbrev pub invariant-loop-core : goal.invariant-loop-core
invariant-loop-core l = Each IsStreamedCore (drop l.core-index l.cores) → Each IsStreamedCore l.cores
