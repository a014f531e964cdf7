use Rattle.tri_expr.proofs.SameTrees.{one_bare_tree, by_bare_tree}
use Rattle.tri_expr.proofs.law.same_trees_are_equal.Goals as goal

pub returns-clause-equal : goal.returns-clause-equal
returns-clause-equal c = one_bare_tree

pub returns-clause-same : goal.returns-clause-same
returns-clause-same c = by_bare_tree
