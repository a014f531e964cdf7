use Rattle.med_statements.proofs.Parts.{text_clean}
use Rattle.med_statements.proofs.text_laws.texts_are_clean.Goals as goal

pub returns : goal.returns
returns c = λ text w has. text_clean text w has
