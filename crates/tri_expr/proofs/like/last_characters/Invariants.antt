use denote.Text.{Utf8}
use denote.Shadow.{shadow}
use Rattle.std.proofs.Common.{◌≡◌, ◌-◌, length, drop}
use Rattle.std.specs.Str.{chars}
use Rattle.tri_expr.proofs.like.last_characters.Given as goal

abbrev pub invariant-loop-spare : goal.invariant-loop-spare
invariant-loop-spare l = record {
  means : drop l.spare (chars l.left) ≡ drop (length (chars l.fn.text) - l.fn.wanted) (chars l.fn.text);
  left_text : shadow (Utf8 l.left);
}

abbrev pub decreases-loop-spare : goal.decreases-loop-spare
decreases-loop-spare l = l.spare
