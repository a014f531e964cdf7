use Rattle.med_value.specs.declared.order.Comparison.TheVariants.{AtLeast, AtMost}
use Rattle.tri_expr.specs.Outcome.{compared}
use Rattle.tri_expr.proofs.logic.between.Goals as goal

pub returns : goal.returns
returns c = λ o a b is low high. c.both.ensures (compared AtLeast o a) (compared AtMost o b) (c.compare_both-first.ensures o a is low) (c.compare_both-second.ensures o b is high)
