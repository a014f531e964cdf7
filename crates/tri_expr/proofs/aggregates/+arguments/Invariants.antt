use Rattle.std.proofs.Common.{◌≡◌, ◌++◌, map, drop}
use Rattle.tri_expr.specs.Tree.{tree, trees}
use Rattle.tri_expr.specs.TreeParts.{arguments_in_all}
use Rattle.tri_expr.proofs.aggregates.+arguments.Given as goal

abbrev pub invariant-push_all-loop-part : goal.invariant-push_all-loop-part
invariant-push_all-loop-part l =
    map tree l.out.items ++ arguments_in_all (trees (map tree (drop l.part-index l.parts))) ≡ map tree l.initial.out.items ++ arguments_in_all (trees (map tree l.parts))
