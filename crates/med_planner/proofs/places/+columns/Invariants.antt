use Rattle.std.proofs.Common.{◌≡◌, ◌++◌, map, drop}
use Rattle.tri_expr.specs.Tree.{tree, trees}
use Rattle.pushdown.specs.Columns.{columns_in_all}
use Rattle.med_planner.proofs.places.+columns.Given as goal

abbrev pub invariant-push_all-loop-part : goal.invariant-push_all-loop-part
invariant-push_all-loop-part l =
    l.out.items ++ columns_in_all (trees (map tree (drop l.part-index l.parts))) ≡ l.initial.out.items ++ columns_in_all (trees (map tree l.parts))
