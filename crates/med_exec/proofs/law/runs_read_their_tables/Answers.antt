use Rattle.med_exec.proofs.Left.{run_honest}
use Rattle.med_exec.proofs.law.runs_read_their_tables.Goals as goal

pub returns : goal.returns
returns c = record { tables = λ places boxes all slot has. all slot; levels = λ ls boxes all slot has. all slot; own = run_honest }
