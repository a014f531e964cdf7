use Rattle.med_lexer.proofs.Prints.{prints}
use Rattle.med_lexer.proofs.laws.printed_again.Goals as goal

pub returns : goal.returns
returns c = prints
