use Rattle.std.proofs.Common.{rules, refl, ◌≡◌, length}
use Rattle.std.specs.Str.{chars}
use Rattle.std.proofs.lemmas.Str.{chars_from_encodes}
use Rattle.tri_expr.proofs.like.last_characters.Goals as goal

pub loop-spare-init : goal.loop-spare-init
loop-spare-init c =
    let counted : c.count.result ≡ length (chars c.args.text.now) = search (rules, chars_from_encodes) in
    record {
      means = rw (c.saturating_sub-spare.ensures, counted) refl;
      left_text = search rules;
    }
