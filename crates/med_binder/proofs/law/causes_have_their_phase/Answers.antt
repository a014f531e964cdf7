use Rattle.med_binder.proofs.LawPhases.{names_are_of_phase, types_are_of_phase}
use Rattle.med_binder.proofs.law.causes_have_their_phase.Goals as goal

pub returns-clause-names : goal.returns-clause-names
returns-clause-names c = λ tables statement c h. names_are_of_phase tables statement c h

pub returns-clause-types : goal.returns-clause-types
returns-clause-types c = λ tables statement c h. types_are_of_phase tables statement c h
