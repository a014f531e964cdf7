use Rattle.std.proofs.Common.{◌≡◌, ◌++◌, ◌∷◌, [], length}
use denote.Text.{Utf8}
use denote.Shadow.{shadow}
use Rattle.std.specs.String.{string_bytes}
use Rattle.med_lexer.specs.Lexemes.{doubled}
use Rattle.expr_writer.proofs.writer.write_quoted.Given as goal

abbrev pub invariant-loop-plain : goal.invariant-loop-plain
invariant-loop-plain l = record {
  utf8 : shadow (Utf8 l.rest);
  same : string_bytes l.out ++ doubled l.quote l.rest ≡ ((string_bytes l.fn.out ++ 32 ∷ []) ++ l.quote ∷ []) ++ doubled l.quote l.text;
}

abbrev pub decreases-loop-plain : goal.decreases-loop-plain
decreases-loop-plain l = length l.rest
