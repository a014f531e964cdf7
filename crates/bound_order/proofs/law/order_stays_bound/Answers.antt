use Rattle.bound_order.proofs.Stays.{stays_bound}
use Rattle.bound_order.proofs.law.order_stays_bound.Goals as goal

pub returns : goal.returns
returns c = stays_bound
