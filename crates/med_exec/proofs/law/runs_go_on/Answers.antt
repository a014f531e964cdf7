use Rattle.med_exec.proofs.Left.{run_goes_on}
use Rattle.med_exec.proofs.law.runs_go_on.Goals as goal

pub returns : goal.returns
returns c = run_goes_on
