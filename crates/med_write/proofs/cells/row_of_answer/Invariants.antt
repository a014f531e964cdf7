use Rattle.std.proofs.Common.{◌≡◌, map, take}
use Rattle.med_value.specs.Datum.{datum, tuple}
use Rattle.med_write.specs.Writing.{outcomes_of, value_for}
use Rattle.med_write.proofs.cells.row_of_answer.Given as goal

abbrev pub invariant-loop-place : goal.invariant-loop-place
invariant-loop-place l = map (value_for (outcomes_of (tuple l.row))) (take l.place-index l.places) ≡ outcomes_of (map datum l.cells.items)
