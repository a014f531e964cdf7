use Rattle.med_planner.proofs.Safe.{safe_plans}
use Rattle.med_planner.proofs.Splits.{plans}
use Rattle.med_planner.proofs.plan_laws.plans_are_loop_plans.Goals as goal

pub returns : goal.returns
returns c = record {
  plans = plans c.offers_split.ensures c.marks_tell.ensures c.from_is_joined.ensures;
  safe = safe_plans;
}
