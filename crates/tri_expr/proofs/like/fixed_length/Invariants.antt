use denote.Text.{Utf8}
use denote.Shadow.{shadow}
use Rattle.std.proofs.Common.{◌≡◌, ◌+◌, length}
use Rattle.std.specs.Str.{chars}
use Rattle.tri_expr.specs.Like.{pieces}
use Rattle.tri_expr.specs.Reach.{has_run}
use Rattle.tri_expr.proofs.like.fixed_length.Given as goal

abbrev pub invariant-loop-first : goal.invariant-loop-first
invariant-loop-first l = record {
  runs : has_run (pieces (chars l.pieces)) ≡ has_run (pieces (chars l.fn.pattern));
  counted : l.count + length (pieces (chars l.pieces)) ≡ length (pieces (chars l.fn.pattern));
  pieces_text : shadow (Utf8 l.pieces);
}

abbrev pub decreases-loop-first : goal.decreases-loop-first
decreases-loop-first l = length (pieces (chars l.pieces))
