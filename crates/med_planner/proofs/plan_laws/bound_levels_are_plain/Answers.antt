use Rattle.med_planner.proofs.Matching.{plain_plans}
use Rattle.med_planner.proofs.plan_laws.bound_levels_are_plain.Goals as goal

pub returns : goal.returns
returns c = plain_plans
