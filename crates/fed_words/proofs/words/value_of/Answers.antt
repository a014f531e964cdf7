use Rattle.std.proofs.Common.{◌∙◌}
use Rattle.clap.specs.Words.{found_of}
use Rattle.clap.proofs.WalkLemmas.{first_value-rows}
use Rattle.fed_words.proofs.Parsed.{value_of_met, no_value}
use Rattle.fed_words.proofs.words.value_of.Goals as goal

pub returns-in-Some : goal.returns-in-Some
returns-in-Some c = c.get_str.ensures ∙ first_value-rows (found_of c.in-Some.run'.now) c.args.option.now ∙ value_of_met _ _ _ c.in-Some.ensures.rows

pub returns-in-None : goal.returns-in-None
returns-in-None c = no_value _ _ c.in-None.ensures.rows
