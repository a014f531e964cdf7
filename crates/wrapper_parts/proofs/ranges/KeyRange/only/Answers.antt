use Rattle.std.proofs.Common.{◌&&◌, ap, ◌∙◌, w64}
use Rattle.std.proofs.lemmas.Int.{to_z-of_z}
use Rattle.std.specs.Ordering.{is_le, int_cmp}
use Rattle.wrapper_parts.specs.Ranges.{has_key}
use Rattle.wrapper_parts.proofs.RangeLemmas.{one_key}
use Rattle.wrapper_parts.proofs.ranges.KeyRange.only.Goals as goal

pub returns : goal.returns
returns c k =
    let e = to_z-of_z w64 c.args.key c.ranges.key in
    let a = rw e at (c.at_least.ensures k) in
    let b = rw e at (c.at_most.ensures k) in
    b ∙ ap (λ z. z && is_le (int_cmp k c.args.key)) a ∙ one_key (has_key c.args.self k) (int_cmp k c.args.key)
