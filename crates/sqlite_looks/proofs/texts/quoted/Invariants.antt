use Rattle.std.proofs.Common.{◌≡◌, ◌∷◌, ◌++◌, string_bytes, length}
use denote.Text.{Utf8}
use denote.Shadow.{shadow}
use Rattle.sqlite_looks.specs.Texts.{doubled}
use Rattle.sqlite_looks.proofs.texts.quoted.Given as goal

-- the text so far, and what is left with its double quotes twice, are all
abbrev pub invariant-loop-plain : goal.invariant-loop-plain
invariant-loop-plain l = record {
  utf8 : shadow (Utf8 l.rest);
  same : string_bytes l.text ++ doubled l.rest ≡ 34 ∷ doubled l.name;
}

abbrev pub decreases-loop-plain : goal.decreases-loop-plain
decreases-loop-plain l = length l.rest
