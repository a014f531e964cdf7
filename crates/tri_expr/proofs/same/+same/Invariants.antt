use Rattle.std.proofs.Common.{◌≡◌, map, drop}
use Rattle.tri_expr.specs.Tree.{tree, trees}
use Rattle.tri_expr.specs.TreeParts.{bare_all, trees_eq}
use Rattle.tri_expr.proofs.same.+same.Given as goal

abbrev pub invariant-are_same-loop-i : goal.invariant-are_same-loop-i
invariant-are_same-loop-i l = trees_eq (bare_all (trees (map tree l.a))) (bare_all (trees (map tree l.b))) ≡ trees_eq (bare_all (trees (map tree (drop l.i l.a)))) (bare_all (trees (map tree (drop l.i l.b))))
