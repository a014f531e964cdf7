use Rattle.tri_expr.proofs.Decides.{tree_decides}
use Rattle.tri_expr.proofs.law.conjuncts_decide_condition.Goals as goal

pub returns : goal.returns
returns c = tree_decides
