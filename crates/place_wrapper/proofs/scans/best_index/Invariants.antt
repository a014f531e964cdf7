use Rattle.std.proofs.Common.{◌-◌, Some, length}
use Rattle.fdw_api.specs.Scan.{spec_of}
use Rattle.wrapper_parts.specs.Scans.{Serves}
use Rattle.place_wrapper.proofs.scans.best_index.Given as goal

abbrev pub invariant-loop-at : goal.invariant-loop-at
invariant-loop-at g l = Serves (spec_of l.spec) (g.T.PlacedTable.form.rows l.table) (Some l.best)

abbrev pub decreases-loop-at : goal.decreases-loop-at
decreases-loop-at g l = length l.spec.offered.items - l.at
