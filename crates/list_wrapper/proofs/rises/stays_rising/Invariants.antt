use Rattle.std.proofs.Common.{map, length}
use Rattle.med_value.specs.Datum.{Whole}
use Rattle.wrapper_parts.specs.KeepingRise.{KeepRising}
use Rattle.list_wrapper.specs.Changes.{change_is}
use Rattle.list_wrapper.specs.Scans.{keys_of}
use Rattle.list_wrapper.proofs.rises.stays_rising.Given as goal

abbrev pub invariant-loop-change : goal.invariant-loop-change
invariant-loop-change l =
    KeepRising (keys_of l.rows.items) (Whole l.low) (map change_is l.changes)
    → KeepRising (keys_of l.rows.items) (Whole l.initial.low) (map change_is l.initial.changes)

abbrev pub decreases-loop-change : goal.decreases-loop-change
decreases-loop-change l = length l.changes
