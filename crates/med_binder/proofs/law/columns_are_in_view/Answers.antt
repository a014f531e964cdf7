use Rattle.med_binder.proofs.LawViews.{form_within}
use Rattle.med_binder.proofs.law.columns_are_in_view.Goals as goal

pub returns : goal.returns
returns c = λ tables statement n. form_within tables statement n
