use Rattle.std.proofs.Common.{[], unwrap_or, ap, ◌∙◌}
use Rattle.clap.specs.Words.{found_of}
use Rattle.clap.proofs.WalkLemmas.{raw_values-rows}
use Rattle.fed_words.proofs.Parsed.{values_of_met}
use Rattle.fed_words.proofs.words.values_of.Goals as goal

pub returns-in-Some : goal.returns-in-Some
returns-in-Some c =
    ap (λ o. unwrap_or o []) (c.get_strs.ensures ∙ raw_values-rows (found_of c.in-Some.run'.now) c.args.option.now)
    ∙ values_of_met _ _ _ c.in-Some.ensures.rows
