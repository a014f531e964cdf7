use Rattle.med_binder.proofs.LawAlike.{form_alike}
use Rattle.med_binder.proofs.law.compared_columns_are_alike.Goals as goal

pub returns : goal.returns
returns c = λ tables statement names types. form_alike tables statement names types
