use Rattle.std.proofs.Common.{◌&&◌, ap, ◌∙◌, arith}
use Rattle.std.proofs.lemmas.Int.{ints}
use Rattle.wrapper_parts.specs.Ranges.{has_key}
use Rattle.wrapper_parts.proofs.RangeLemmas.{and_false, none_below, next_below}
use Rattle.wrapper_parts.proofs.ranges.KeyRange.below.Goals as goal

pub returns-then-key-eqminus9223372036854775808 : goal.returns-then-key-eqminus9223372036854775808
returns-then-key-eqminus9223372036854775808 c k fits =
    c.none.ensures k ∙ and_false (has_key c.args.self k) _ (none_below k c.args.key fits (omega (arith, ints)))

pub returns : goal.returns
returns c k fits = c.at_most.ensures k ∙ ap (λ b. has_key c.args.self k && b) (next_below k c.args.key _ (omega (arith, ints)))
