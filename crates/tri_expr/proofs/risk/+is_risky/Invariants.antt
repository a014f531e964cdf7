use Rattle.std.proofs.Common.{◌≡◌, map, drop}
use Rattle.tri_expr.specs.Tree.{tree, trees}
use Rattle.tri_expr.specs.TreeParts.{has_risky_tree}
use Rattle.tri_expr.proofs.risk.+is_risky.Given as goal

abbrev pub invariant-some_risky-loop-part : goal.invariant-some_risky-loop-part
invariant-some_risky-loop-part l = has_risky_tree (trees (map tree l.parts)) ≡ has_risky_tree (trees (map tree (drop l.part-index l.parts)))
