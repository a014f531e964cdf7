use Rattle.med_lexer.proofs.Stops.{one_list}
use Rattle.med_lexer.proofs.laws.one_list.Goals as goal

pub returns : goal.returns
returns c = one_list 0
