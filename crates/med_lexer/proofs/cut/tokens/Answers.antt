use Rattle.med_lexer.proofs.CutLoop.{is_tokens}
use Rattle.med_lexer.proofs.cut.tokens.Goals as goal

pub returns : goal.returns
returns c = is_tokens c.args.text.now c.cut.result c.cut.ensures
