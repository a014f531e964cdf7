use Rattle.bind_write.proofs.Phases.{names, types}
use Rattle.bind_write.proofs.parts_law.causes_have_their_phase.Goals as goal

pub returns-clause-names : goal.returns-clause-names
returns-clause-names c = λ o user t d h. names o user t d h

pub returns-clause-types : goal.returns-clause-types
returns-clause-types c = λ o t d h. types o t d h
