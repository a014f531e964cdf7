use Rattle.med_planner.proofs.Viewing.{in_view}
use Rattle.med_planner.proofs.plan_laws.bound_cores_are_in_view.Goals as goal

pub returns : goal.returns
returns c = in_view
