use Rattle.std.proofs.Common.{◌≡◌, ◌≤◌, ◌+◌, ◌*◌, ◌++◌, length, max}
use Rattle.std.specs.String.{string_bytes}
use Rattle.med_lexer.specs.Printing.{behind_spaces}
use Rattle.med_syntax.specs.Prelude.{height, highest, spellings, expr_tree, expr_trees}
use Rattle.expr_writer.specs.ExprPrinting.{fixed_terminal, shapes_for}
use Rattle.expr_writer.proofs.writer.+writer.Given as goal

abbrev pub decreases-write : goal.decreases-write
decreases-write l = 4 * height (expr_tree l.expr.now)

abbrev pub decreases-write_paren : goal.decreases-write_paren
decreases-write_paren l = 4 * height (expr_tree l.expr.now) + 1

abbrev pub decreases-write_pair : goal.decreases-write_pair
decreases-write_pair l = 4 * max (height (expr_tree l.a.now)) (height (expr_tree l.b.now)) + 1

abbrev pub decreases-write_list : goal.decreases-write_list
decreases-write_list l = 4 * max (height (expr_tree l.first.now)) (highest (expr_trees l.others.now)) + 2

abbrev pub decreases-write_call : goal.decreases-write_call
decreases-write_call l = 4 * highest (expr_trees l.parts.now) + 3

abbrev pub decreases-write_chain : goal.decreases-write_chain
decreases-write_chain l = 4 * max (height (expr_tree l.first.now)) (highest (expr_trees l.others.now)) + 2

abbrev pub decreases-write_between : goal.decreases-write_between
decreases-write_between l = 4 * max (height (expr_tree l.e.now)) (max (height (expr_tree l.low.now)) (height (expr_tree l.high.now))) + 2

abbrev pub decreases-write_in : goal.decreases-write_in
decreases-write_in l = 4 * max (height (expr_tree l.e.now)) (max (height (expr_tree l.first.now)) (highest (expr_trees l.others.now))) + 3

abbrev pub decreases-write_like : goal.decreases-write_like
decreases-write_like l = 4 * height (expr_tree l.e.now) + 1

abbrev pub decreases-write_is : goal.decreases-write_is
decreases-write_is l = 4 * height (expr_tree l.e.now) + 1

abbrev pub decreases-write_others : goal.decreases-write_others
decreases-write_others l = 4 * highest (expr_trees l.exprs.now) + 1

abbrev pub invariant-write_others-loop-expr : goal.invariant-write_others-loop-expr
invariant-write_others-loop-expr l = record {
  same : string_bytes l.out ++ behind_spaces (shapes_for (spellings (fixed_terminal l.fixed) (expr_trees l.left))) ≡ string_bytes l.fn.out ++ behind_spaces (shapes_for (spellings (fixed_terminal l.fixed) (expr_trees l.exprs)));
  low : highest (expr_trees l.left) ≤ highest (expr_trees l.exprs);
}

abbrev pub decreases-write_others-loop-expr : goal.decreases-write_others-loop-expr
decreases-write_others-loop-expr l = length l.left
