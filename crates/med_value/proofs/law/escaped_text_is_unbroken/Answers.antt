use Rattle.med_value.proofs.EscapeLemmas.{unbroken}
use Rattle.med_value.proofs.law.escaped_text_is_unbroken.Goals as goal

pub returns : goal.returns
returns c = unbroken
