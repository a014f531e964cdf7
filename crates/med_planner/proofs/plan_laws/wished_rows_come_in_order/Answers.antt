use Rattle.med_planner.proofs.Ordering.{wished_come, unwished_are}
use Rattle.med_planner.proofs.plan_laws.wished_rows_come_in_order.Goals as goal

pub returns : goal.returns
returns c = record {
  wished = wished_come;
  unwished = unwished_are;
}
