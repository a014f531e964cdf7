use Rattle.tri_expr.proofs.Shuffled.{from_swaps}
use Rattle.tri_expr.proofs.Steady.{meaning_steady}
use Rattle.tri_expr.proofs.law.values_ignore_order.Goals as goal

pub returns : goal.returns
returns c = λ params e a b p. meaning_steady params e a b (from_swaps a b p)
