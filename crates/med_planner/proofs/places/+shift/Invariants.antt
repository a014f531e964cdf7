use Rattle.std.proofs.Common.{◌≡◌, map, take}
use Rattle.tri_expr.specs.Tree.{tree}
use Rattle.med_planner.specs.Places.{shifted}
use Rattle.med_planner.proofs.places.+shift.Given as goal

abbrev pub invariant-shifted_all-loop-part : goal.invariant-shifted_all-loop-part
invariant-shifted_all-loop-part l = map tree l.moved.items ≡ map (shifted l.base) (map tree (take l.part-index l.parts))
