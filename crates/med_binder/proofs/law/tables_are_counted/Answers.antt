use Rattle.med_binder.proofs.LawCounted.{form_counts}
use Rattle.med_binder.proofs.law.tables_are_counted.Goals as goal

pub returns : goal.returns
returns c = λ tables statement. form_counts tables statement
