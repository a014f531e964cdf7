-- What tokens say, and which of them may have no place in a statement.
use Rattle.std.specs.Prelude.{◌<◌, Bool, true, false, List, length, map, codes}
use Rattle.std.specs.Str.{bytes_eq}
use Rattle.med_value.specs.Limits.{name_limit}
use Rattle.med_lexer.specs.declared.Mark.TheVariants as marks
use Rattle.med_lexer.specs.Lexemes.{Shape, word, quoted, mark, Lexeme}

-- what the tokens say, without where they stand
abbrev pub shapes : List Lexeme → List Shape
shapes = map (λ (t : Lexeme). t.shape)

-- A name has at most 63 bytes, as in PostgreSQL. An unquoted word counts as a name here.
abbrev pub IsLongName : Shape → Type 0
IsLongName (word w) = name_limit < length w
IsLongName (quoted q) = name_limit < length q
IsLongName _ = ⊥

-- The tokens with which an expression can get deeper without bound: ( + - * / % and the word NOT.
abbrev pub deepens : Shape → Bool
deepens (mark marks.LeftParen) = true
deepens (mark marks.Plus) = true
deepens (mark marks.Minus) = true
deepens (mark marks.Star) = true
deepens (mark marks.Slash) = true
deepens (mark marks.Percent) = true
deepens (word w) = bytes_eq w (codes "not")
deepens _ = false
