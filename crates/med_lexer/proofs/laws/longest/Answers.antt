use Rattle.med_lexer.proofs.Places.{longest_at}
use Rattle.med_lexer.proofs.laws.longest.Goals as goal

pub returns : goal.returns
returns c = longest_at
