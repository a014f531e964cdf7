use Rattle.med_planner.proofs.Beginning.{plans_start}
use Rattle.med_planner.proofs.plan_laws.bound_levels_can_start.Goals as goal

pub returns : goal.returns
returns c = plans_start
