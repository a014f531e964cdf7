use Rattle.med_lexer.proofs.Faulty.{why}
use Rattle.med_lexer.proofs.laws.why_no_tokens.Goals as goal

pub returns : goal.returns
returns c = why
