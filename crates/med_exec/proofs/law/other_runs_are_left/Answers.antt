use Rattle.med_exec.proofs.Leaving.{served_leaves, served_held, served_fresh, served_had}
use Rattle.med_exec.proofs.law.other_runs_are_left.Goals as goal

pub returns : goal.returns
returns c = record { left = served_leaves; held = served_held; fresh = served_fresh; had = served_had }
