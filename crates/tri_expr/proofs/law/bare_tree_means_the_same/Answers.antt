use Rattle.tri_expr.proofs.BareTrees.{bare_means}
use Rattle.tri_expr.proofs.law.bare_tree_means_the_same.Goals as goal

pub returns : goal.returns
returns c = bare_means
