use Rattle.bind_write.proofs.Least.{least_told}
use Rattle.bind_write.proofs.law.least_phase_is_told.Goals as goal

pub returns : goal.returns
returns c = λ o user t d h. least_told o user t d h
