use Rattle.med_value.proofs.EscapeLemmas.{text_is_not_null}
use Rattle.med_value.proofs.law.text_is_not_null.Goals as goal

pub returns : goal.returns
returns c = text_is_not_null
