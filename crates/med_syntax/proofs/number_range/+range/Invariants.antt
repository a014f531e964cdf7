use Rattle.std.proofs.Common.{◌≡◌, ◌≤◌, ◌+◌, ◌*◌, length}
use Rattle.med_syntax.specs.ExprTree.{height, highest}
use Rattle.med_syntax.specs.ExprGrammar.{are_in_range}
use Rattle.med_syntax.specs.ExprView.{expr_tree, expr_trees}
use Rattle.med_syntax.proofs.number_range.+range.Given as goal

abbrev pub decreases-is_in_range : goal.decreases-is_in_range
decreases-is_in_range l = 2 * height (expr_tree l.expr.now)

abbrev pub decreases-are_all_in_range : goal.decreases-are_all_in_range
decreases-are_all_in_range l = 2 * highest (expr_trees l.exprs.now) + 1

abbrev pub invariant-are_all_in_range-loop-left : goal.invariant-are_all_in_range-loop-left
invariant-are_all_in_range-loop-left l = record {
  same : are_in_range (expr_trees l.exprs) ≡ are_in_range (expr_trees l.left);
  low : highest (expr_trees l.left) ≤ highest (expr_trees l.exprs);
}

abbrev pub decreases-are_all_in_range-loop-left : goal.decreases-are_all_in_range-loop-left
decreases-are_all_in_range-loop-left l = length l.left
