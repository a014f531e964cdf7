use Rattle.std.proofs.Common.{◌≡◌, drop}
use Rattle.scan_loops.specs.Streamed.{all_safe}
use Rattle.med_planner.proofs.wishing.are_safe.Given as goal

abbrev pub invariant-loop-e : goal.invariant-loop-e
invariant-loop-e l = all_safe l.es ≡ all_safe (drop l.e-index l.es)
