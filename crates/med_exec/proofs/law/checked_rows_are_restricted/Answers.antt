use Rattle.med_exec.proofs.RestrictedLemmas.{checked_again}
use Rattle.med_exec.proofs.law.checked_rows_are_restricted.Goals as goal

pub returns : goal.returns
returns c = checked_again
