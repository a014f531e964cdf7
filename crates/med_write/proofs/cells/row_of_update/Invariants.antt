use Rattle.std.proofs.Common.{◌≡◌, map, take, option_map}
use Rattle.med_value.specs.Datum.{datum, tuple}
use Rattle.tri_expr.specs.Tree.{tree}
use Rattle.med_write.specs.Writing.{cells_after, outcomes_of}
use Rattle.med_write.proofs.cells.row_of_update.Given as goal

abbrev pub invariant-loop-place : goal.invariant-loop-place
invariant-loop-place l = cells_after (tuple l.row) 0 (map (option_map tree) (take l.place l.sets)) ≡ outcomes_of (map datum l.cells.items)
