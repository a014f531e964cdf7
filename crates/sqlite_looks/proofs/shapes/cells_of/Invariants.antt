use Rattle.std.proofs.Common.{◌≡◌, ◌+◌, ◌≤◌, ◌∷◌, ◌++◌, Some, length}
use Rattle.sqlite_looks.specs.Shapes.{cells_from}
use Rattle.sqlite_looks.proofs.shapes.cells_of.Given as goal

-- the cells so far, and those of what is left, are all
abbrev pub invariant-loop-column : goal.invariant-loop-column
invariant-loop-column l = record {
  shown : l.cells.items ++ cells_from l.table.key l.at l.parameter l.left ≡ Some 0 ∷ cells_from l.table.key 0 1 l.initial.left;
  few : l.parameter ≤ l.at + 1;
  counted : l.at + length l.left ≡ length l.initial.left;
}

abbrev pub decreases-loop-column : goal.decreases-loop-column
decreases-loop-column l = length l.left
