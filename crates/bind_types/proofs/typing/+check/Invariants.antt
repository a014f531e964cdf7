use Rattle.std.proofs.Common.{◌≡◌, ◌≤◌, ◌+◌, ◌*◌, ◌∷◌, max, drop}
use Rattle.med_syntax.specs.Prelude.{height, highest, expr_tree, expr_trees}
use Rattle.bind_names.specs.Scope.{scope_of}
use Rattle.bind_types.specs.Typing.{types_of, comparing, type_causes_of_all, condition_causes}
use Rattle.bind_types.proofs.typing.+check.Given as goal

abbrev pub decreases-check : goal.decreases-check
decreases-check l = 5 * height (expr_tree l.e.now)

abbrev pub decreases-type_of : goal.decreases-type_of
decreases-type_of l = 5 * height (expr_tree l.e.now) + 1

abbrev pub decreases-operand : goal.decreases-operand
decreases-operand l = 5 * height (expr_tree l.e.now) + 2

abbrev pub decreases-computed : goal.decreases-computed
decreases-computed l = 5 * max (height (expr_tree l.a.now)) (height (expr_tree l.b.now)) + 3

abbrev pub decreases-compared : goal.decreases-compared
decreases-compared l = 5 * max (height (expr_tree l.a.now)) (height (expr_tree l.b.now)) + 3

abbrev pub decreases-bounded : goal.decreases-bounded
decreases-bounded l = 5 * max (height (expr_tree l.e.now)) (max (height (expr_tree l.low.now)) (height (expr_tree l.high.now))) + 3

abbrev pub decreases-listed : goal.decreases-listed
decreases-listed l = 5 * highest (expr_trees l.others.now) + 2

abbrev pub decreases-contained : goal.decreases-contained
decreases-contained l = 5 * max (height (expr_tree l.e.now)) (max (height (expr_tree l.first.now)) (highest (expr_trees l.others.now))) + 3

abbrev pub decreases-liked : goal.decreases-liked
decreases-liked l = 5 * height (expr_tree l.e.now) + 3

abbrev pub decreases-tested : goal.decreases-tested
decreases-tested l = 5 * height (expr_tree l.e.now) + 3

abbrev pub decreases-conditions : goal.decreases-conditions
decreases-conditions l = 5 * highest (expr_trees l.others.now) + 3

abbrev pub decreases-chained : goal.decreases-chained
decreases-chained l = 5 * max (height (expr_tree l.first.now)) (highest (expr_trees l.others.now)) + 4

abbrev pub invariant-listed-loop-other : goal.invariant-listed-loop-other
invariant-listed-loop-other l = record {
  causes : type_causes_of_all (scope_of l.scope) (expr_trees l.others) ≡ type_causes_of_all (scope_of l.scope) (expr_trees (drop l.other-index l.others));
  types : comparing (l.fn.kind ∷ types_of (scope_of l.scope) (expr_trees l.others)) ≡ comparing (l.all ∷ types_of (scope_of l.scope) (expr_trees (drop l.other-index l.others)));
  low : highest (expr_trees (drop l.other-index l.others)) ≤ highest (expr_trees l.others);
}

abbrev pub invariant-conditions-loop-other : goal.invariant-conditions-loop-other
invariant-conditions-loop-other l = record {
  causes : condition_causes (scope_of l.scope) (expr_trees l.others) ≡ condition_causes (scope_of l.scope) (expr_trees (drop l.other-index l.others));
  low : highest (expr_trees (drop l.other-index l.others)) ≤ highest (expr_trees l.others);
}

abbrev pub decreases-called : goal.decreases-called
decreases-called l = 5 * highest (expr_trees l.arguments.now) + 4

abbrev pub decreases-called_with : goal.decreases-called_with
decreases-called_with l = 5 * height (expr_tree l.argument.now) + 3
