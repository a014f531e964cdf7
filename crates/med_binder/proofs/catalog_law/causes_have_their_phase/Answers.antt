use Rattle.med_binder.proofs.Phases.{names, types}
use Rattle.med_binder.proofs.catalog_law.causes_have_their_phase.Goals as goal

pub returns-clause-names : goal.returns-clause-names
returns-clause-names c = λ o user q d h. names o user q d h

pub returns-clause-types : goal.returns-clause-types
returns-clause-types c = λ o q d h. types o q d h
