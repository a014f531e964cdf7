use Rattle.join_order.proofs.SameQueries.{order_keeps}
use Rattle.join_order.proofs.law.order_keeps_answers.Goals as goal

pub returns : goal.returns
returns c = order_keeps
