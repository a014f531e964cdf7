use Rattle.med_binder.proofs.LawCounted.{form_narrow, forms_narrow}
use Rattle.med_binder.proofs.law.widths_are_limited.Goals as goal

pub returns-clause-all : goal.returns-clause-all
returns-clause-all c = λ tables statement narrow. form_narrow tables statement narrow

pub returns-clause-core : goal.returns-clause-core
returns-clause-core c = λ tables statement narrow. forms_narrow tables statement narrow
