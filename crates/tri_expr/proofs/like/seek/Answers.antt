use Rattle.std.proofs.Common.{ap, ◌∙◌}
use Rattle.std.specs.Str.{chars}
use Rattle.tri_expr.specs.Like.{pieces}
use Rattle.tri_expr.specs.Reach.{reached}
use Rattle.tri_expr.proofs.Searching.{seeks_end}
use Rattle.tri_expr.proofs.like.seek.Goals as goal

pub returns-in-Some : goal.returns-in-Some
returns-in-Some c = seeks_end (pieces (chars c.args.pattern.now)) (chars c.args.text.now) c.in-Some.wanted _ c.in-Some.ensures (c.walk.ensures ∙ ap (reached (pieces (chars c.args.pattern.now))) c.last_characters.ensures)
