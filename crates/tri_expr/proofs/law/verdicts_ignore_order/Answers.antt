use Rattle.tri_expr.proofs.SameVerdicts.{same_verdict}
use Rattle.tri_expr.proofs.law.verdicts_ignore_order.Goals as goal

pub returns : goal.returns
returns c = λ os us p. same_verdict os us p
