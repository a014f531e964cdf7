use denote.Text.{Utf8}
use denote.Shadow.{shadow}
use Rattle.std.proofs.Common.{length}
use Rattle.std.specs.Str.{chars}
use Rattle.tri_expr.specs.Like.{pieces}
use Rattle.tri_expr.specs.Reach.{SkipsNothing}
use Rattle.tri_expr.proofs.like.seek_first.Given as goal

abbrev pub invariant-loop-place : goal.invariant-loop-place
invariant-loop-place l = record {
  means : SkipsNothing (pieces (chars l.fn.pattern)) (chars l.fn.text) (chars l.left);
  left_text : shadow (Utf8 l.left);
}

abbrev pub decreases-loop-place : goal.decreases-loop-place
decreases-loop-place l = length (chars l.left)
