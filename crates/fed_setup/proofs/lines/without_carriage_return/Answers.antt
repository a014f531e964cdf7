use Rattle.std.proofs.Common.{lit<, None}
use Rattle.std.proofs.lemmas.Str.Pattern.{strip_suffix_char}
use Rattle.fed_setup.proofs.Cuts.{own_text}
use Rattle.fed_setup.proofs.lines.without_carriage_return.Goals as goal

pub returns-in-None : goal.returns-in-None
returns-in-None c = own_text c.args.line.now (strip_suffix_char 13 c.args.line.now None c.in-None.ensures.cases (lit< tt))
