use Rattle.med_parser.proofs.CommandBegins.{kind_none, kind_first}
use Rattle.med_parser.proofs.command_kind.kind_of.Goals as goal

pub returns-in-empty : goal.returns-in-empty
returns-in-empty c = kind_none c.args.tokens.now c.in-empty.len_below

pub returns-in-len1-up : goal.returns-in-len1-up
returns-in-len1-up c = kind_first c.args.tokens.now c.first-item.result c.kind_of_token.result c.in-len1-up.len_at_least c.first-item.is c.kind_of_token.ensures
