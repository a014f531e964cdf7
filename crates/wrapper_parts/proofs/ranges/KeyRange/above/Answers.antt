use Rattle.std.proofs.Common.{◌&&◌, ap, ◌∙◌, arith}
use Rattle.std.proofs.lemmas.Int.{ints}
use Rattle.wrapper_parts.specs.Ranges.{has_key}
use Rattle.wrapper_parts.proofs.RangeLemmas.{and_false, none_above, next_above}
use Rattle.wrapper_parts.proofs.ranges.KeyRange.above.Goals as goal

pub returns-then-key-eq9223372036854775807 : goal.returns-then-key-eq9223372036854775807
returns-then-key-eq9223372036854775807 c k fits =
    c.none.ensures k ∙ and_false (has_key c.args.self k) _ (none_above k c.args.key fits (omega (arith, ints)))

pub returns : goal.returns
returns c k fits = c.at_least.ensures k ∙ ap (λ b. has_key c.args.self k && b) (next_above k c.args.key _ (omega (arith, ints)))
