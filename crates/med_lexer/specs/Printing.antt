-- Tokens written out, with one space between them.
use Rattle.std.specs.Prelude.{ℕ, List, [], ◌∷◌, ◌++◌}
use Rattle.std.specs.Str.{str_to_ascii_uppercase}
use Rattle.med_lexer.specs.Lexemes.{between, Shape, word, quoted, literal, number, mark, mark_bytes, Spells}

-- some bytes are a token that says this
abbrev pub IsShape : Shape → Type 0
IsShape s = (raw : List ℕ) × Spells s raw

abbrev pub AreShapes : List Shape → Type 0
AreShapes [] = Unit {0}
AreShapes (s ∷ ss) = IsShape s × AreShapes ss

-- the token written: words in upper case
abbrev pub raw_of : Shape → List ℕ
raw_of (word w) = str_to_ascii_uppercase w
raw_of (quoted q) = between 34 q
raw_of (literal q) = between 39 q
raw_of (number d) = d
raw_of (mark m) = mark_bytes m

-- each behind a space
abbrev pub behind_spaces : List Shape → List ℕ
behind_spaces [] = []
behind_spaces (s ∷ ss) = 32 ∷ (raw_of s ++ behind_spaces ss)

-- all in a row, with one space between them
abbrev pub printed : List Shape → List ℕ
printed [] = []
printed (s ∷ ss) = raw_of s ++ behind_spaces ss
