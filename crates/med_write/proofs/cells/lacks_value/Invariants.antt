use Rattle.std.proofs.Common.{◌≡◌, map, length}
use Rattle.med_value.specs.Datum.{datum}
use Rattle.med_write.specs.Writing.{outcomes_of, lacks_value}
use Rattle.med_write.proofs.cells.lacks_value.Given as goal

abbrev pub invariant-loop-column : goal.invariant-loop-column
invariant-loop-column l =
    lacks_value l.columns (outcomes_of (map datum l.cells)) ≡ lacks_value l.initial.columns (outcomes_of (map datum l.initial.cells))

abbrev pub decreases-loop-column : goal.decreases-loop-column
decreases-loop-column l = length l.columns
