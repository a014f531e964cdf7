use Rattle.std.proofs.Common.{length, map}
use Rattle.med_value.specs.Datum.{datum}
use Rattle.sqlite_tables.proofs.reading.index_of.Given as goal
use Rattle.sqlite_tables.proofs.ColumnReads.{IsIndexed}

abbrev pub invariant-loop-value : goal.invariant-loop-value
invariant-loop-value l = IsIndexed (map datum l.fn.values.items) l.left.items l.index

abbrev pub decreases-loop-value : goal.decreases-loop-value
decreases-loop-value l = length l.left.items
