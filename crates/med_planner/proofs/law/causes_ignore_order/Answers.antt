use Rattle.med_planner.proofs.Promise.{causes_any}
use Rattle.med_planner.proofs.law.causes_ignore_order.Goals as goal

pub returns : goal.returns
returns c = causes_any c.answers_ignore_order.ensures
