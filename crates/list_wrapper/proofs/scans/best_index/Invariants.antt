use Rattle.std.proofs.Common.{◌-◌, Some, length}
use Rattle.fdw_api.specs.Scan.{spec_of}
use Rattle.wrapper_parts.specs.Scans.{Serves}
use Rattle.list_wrapper.specs.Scans.{numbered}
use Rattle.list_wrapper.proofs.scans.best_index.Given as goal

abbrev pub invariant-loop-at : goal.invariant-loop-at
invariant-loop-at l = Serves (spec_of l.spec) (numbered 0 l.rows.items) (Some l.best)

abbrev pub decreases-loop-at : goal.decreases-loop-at
decreases-loop-at l = length l.spec.offered.items - l.at
