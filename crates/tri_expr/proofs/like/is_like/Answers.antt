use Rattle.std.proofs.Common.{sym, ◌∙◌}
use Rattle.std.specs.Str.{chars}
use Rattle.tri_expr.specs.Like.{pieces}
use Rattle.tri_expr.proofs.Reaching.{stops, waits_fits}
use Rattle.tri_expr.proofs.like.is_like.Goals as goal

pub returns-in-Ends : goal.returns-in-Ends
returns-in-Ends c = sym (stops (pieces (chars c.args.pattern.now)) (chars c.args.text.now) c.in-Ends.answer c.in-Ends.ensures)

pub returns-in-AtRun : goal.returns-in-AtRun
returns-in-AtRun c = c.some_rest_fits.ensures ∙ sym (waits_fits (pieces (chars c.args.pattern.now)) (pieces (chars c.in-AtRun.later.now)) (chars c.args.text.now) (chars c.in-AtRun.left.now) c.in-AtRun.ensures)
