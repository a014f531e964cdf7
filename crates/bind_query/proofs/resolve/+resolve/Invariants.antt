use Rattle.std.proofs.Common.{◌≡◌, ◌≤◌, ◌+◌, ◌*◌, map, max, drop}
use Rattle.med_syntax.specs.Prelude.{height, highest, expr_tree, expr_trees}
use Rattle.tri_expr.specs.Tree.{tree, part}
use Rattle.bind_names.specs.Prelude.{scope_of, name_causes_of_all, resolved_all}
use Rattle.bind_query.proofs.Trees.{trees_then}
use Rattle.bind_query.proofs.resolve.+resolve.Given as goal

abbrev pub decreases-resolve : goal.decreases-resolve
decreases-resolve l = 4 * height (expr_tree l.e.now)

abbrev pub decreases-boxed : goal.decreases-boxed
decreases-boxed l = 4 * height (expr_tree l.e.now) + 1

abbrev pub decreases-listed : goal.decreases-listed
decreases-listed l = 4 * highest (expr_trees l.others.now) + 1

abbrev pub decreases-compared : goal.decreases-compared
decreases-compared l = 4 * max (height (expr_tree l.a.now)) (height (expr_tree l.b.now)) + 2

abbrev pub decreases-computed : goal.decreases-computed
decreases-computed l = 4 * max (height (expr_tree l.a.now)) (height (expr_tree l.b.now)) + 2

abbrev pub decreases-bounded : goal.decreases-bounded
decreases-bounded l = 4 * max (height (expr_tree l.e.now)) (max (height (expr_tree l.low.now)) (height (expr_tree l.high.now))) + 2

abbrev pub decreases-contained : goal.decreases-contained
decreases-contained l = 4 * max (height (expr_tree l.e.now)) (max (height (expr_tree l.first.now)) (highest (expr_trees l.others.now))) + 2

abbrev pub decreases-chained : goal.decreases-chained
decreases-chained l = 4 * max (height (expr_tree l.first.now)) (highest (expr_trees l.others.now)) + 2

abbrev pub invariant-listed-loop-other : goal.invariant-listed-loop-other
invariant-listed-loop-other l = record {
  causes : name_causes_of_all (scope_of l.scope) (expr_trees l.others) ≡ name_causes_of_all (scope_of l.scope) (expr_trees (drop l.other-index l.others));
  parts : trees_then (map tree l.parts.items) (resolved_all (scope_of l.scope) (expr_trees (drop l.other-index l.others))) ≡ part (tree l.fn.first) (resolved_all (scope_of l.scope) (expr_trees l.others));
  low : highest (expr_trees (drop l.other-index l.others)) ≤ highest (expr_trees l.others);
}

abbrev pub decreases-arguments : goal.decreases-arguments
decreases-arguments l = 4 * highest (expr_trees l.written.now) + 1

abbrev pub decreases-called : goal.decreases-called
decreases-called l = 4 * highest (expr_trees l.written.now) + 2

abbrev pub invariant-arguments-loop-e : goal.invariant-arguments-loop-e
invariant-arguments-loop-e l = record {
  causes : name_causes_of_all (scope_of l.scope) (expr_trees l.written) ≡ name_causes_of_all (scope_of l.scope) (expr_trees (drop l.e-index l.written));
  parts : trees_then (map tree l.parts.items) (resolved_all (scope_of l.scope) (expr_trees (drop l.e-index l.written))) ≡ resolved_all (scope_of l.scope) (expr_trees l.written);
  low : highest (expr_trees (drop l.e-index l.written)) ≤ highest (expr_trees l.written);
}
