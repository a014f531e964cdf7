use Rattle.loop_runs.proofs.Orders.{FromHere}
use Rattle.loop_runs.proofs.ordering.is_order.Given as goal

abbrev pub invariant-loop-at : goal.invariant-loop-at
invariant-loop-at l = FromHere l.directions l.keys l.promised l.at
