use Rattle.med_lexer.proofs.Places.{shapes_spelled}
use Rattle.med_lexer.proofs.laws.tokens_can_be_printed.Goals as goal

pub returns : goal.returns
returns c = λ text ts h. shapes_spelled ts 0 text h
