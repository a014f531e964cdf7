use Rattle.std.proofs.Common.{◌≡◌, map, take}
use Rattle.med_value.specs.Datum.{datum, tuple}
use Rattle.tri_expr.specs.Tree.{tree}
use Rattle.med_write.specs.Writing.{outcomes_on, outcomes_of, value_for}
use Rattle.med_write.proofs.cells.row_of_values.Given as goal

abbrev pub invariant-loop-place : goal.invariant-loop-place
invariant-loop-place l = map (value_for (outcomes_on (tuple l.nothing) (map tree l.given))) (take l.place-index l.places) ≡ outcomes_of (map datum l.cells.items)
