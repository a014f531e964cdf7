use Rattle.tri_expr.proofs.Safe.{safe}
use Rattle.tri_expr.proofs.law.safe_expression_has_value.Goals as goal

pub returns : goal.returns
returns c = λ params e class. safe params e class
