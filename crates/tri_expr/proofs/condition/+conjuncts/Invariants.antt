use Rattle.std.proofs.Common.{◌≡◌, ◌++◌, map, drop}
use Rattle.tri_expr.specs.Tree.{tree, trees, conjuncts_of_all}
use Rattle.tri_expr.proofs.condition.+conjuncts.Given as goal

abbrev pub invariant-push_all-loop-part : goal.invariant-push_all-loop-part
invariant-push_all-loop-part l =
    map tree l.out.items ++ conjuncts_of_all (trees (map tree (drop l.part-index l.parts))) ≡ map tree l.initial.out.items ++ conjuncts_of_all (trees (map tree l.parts))
