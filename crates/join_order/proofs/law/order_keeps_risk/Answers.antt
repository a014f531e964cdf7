use Rattle.join_order.proofs.SameRisk.{order_risk}
use Rattle.join_order.proofs.law.order_keeps_risk.Goals as goal

pub returns : goal.returns
returns c = order_risk
