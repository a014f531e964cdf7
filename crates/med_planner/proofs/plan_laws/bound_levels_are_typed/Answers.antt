use Rattle.med_planner.proofs.Matching.{typed_plans}
use Rattle.med_planner.proofs.plan_laws.bound_levels_are_typed.Goals as goal

pub returns : goal.returns
returns c = typed_plans
