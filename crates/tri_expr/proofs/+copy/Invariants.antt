use Rattle.std.proofs.Common.{◌≡◌, map, take}
use Rattle.tri_expr.specs.Tree.{tree}
use Rattle.tri_expr.proofs.+copy.Given as goal

abbrev pub invariant-copy::copied_parts-loop-part : goal.invariant-copy::copied_parts-loop-part
invariant-copy::copied_parts-loop-part l = map tree l.copies.items ≡ map tree (take l.part-index l.parts)
