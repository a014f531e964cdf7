use Rattle.med_planner.proofs.Sounds.{sound_is_wide}
use Rattle.med_planner.proofs.Widening.{wide}
use Rattle.med_planner.proofs.plan_laws.bound_rows_are_wide.Goals as goal

pub returns : goal.returns
returns c = record {
  counted = wide;
  sound = sound_is_wide;
}
