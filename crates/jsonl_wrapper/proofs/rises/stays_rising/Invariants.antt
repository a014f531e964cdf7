use Rattle.std.proofs.Common.{map, length}
use Rattle.med_value.specs.Datum.{Whole}
use Rattle.wrapper_parts.specs.Staged.{change_is}
use Rattle.wrapper_parts.specs.KeepingRise.{KeepRising}
use Rattle.jsonl_wrapper.specs.Tables.{readers_in, lines_in}
use Rattle.jsonl_wrapper.specs.Rises.{first_column}
use Rattle.jsonl_wrapper.proofs.rises.stays_rising.Given as goal

abbrev pub invariant-loop-change : goal.invariant-loop-change
invariant-loop-change l =
    KeepRising (first_column (readers_in l.table) (lines_in l.table)) (Whole l.low) (map change_is l.changes)
    → KeepRising (first_column (readers_in l.table) (lines_in l.table)) (Whole l.initial.low) (map change_is l.initial.changes)

abbrev pub decreases-loop-change : goal.decreases-loop-change
decreases-loop-change l = length l.changes
