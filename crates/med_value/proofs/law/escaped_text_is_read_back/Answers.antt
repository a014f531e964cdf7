use Rattle.med_value.proofs.EscapeLemmas.{read_back-escaped_text}
use Rattle.med_value.proofs.law.escaped_text_is_read_back.Goals as goal

pub returns : goal.returns
returns c = read_back-escaped_text
