use Rattle.std.proofs.Common.{◌≡◌, ◌+◌, ◌++◌, map, length}
use Rattle.sqlite_looks.specs.Shapes.{entry_of, entries_from}
use Rattle.sqlite_looks.proofs.shapes.columns_of.Given as goal

-- the columns so far, and those of what is left, are all
abbrev pub invariant-loop-column : goal.invariant-loop-column
invariant-loop-column l = record {
  shown : map entry_of l.columns.items ++ entries_from l.table.key l.at l.left ≡ entries_from l.table.key 0 l.initial.left;
  counted : l.at + length l.left ≡ length l.initial.left;
}

abbrev pub decreases-loop-column : goal.decreases-loop-column
decreases-loop-column l = length l.left
