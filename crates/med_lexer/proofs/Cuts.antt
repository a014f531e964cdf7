-- The tokens of a text by the byte at which each stops.
use Rattle.std.proofs.Common.{◌≡◌, ℕ, ◌+◌, List, [], ◌∷◌, ◌++◌, length}
use Rattle.std.specs.Prelude.{Bool, false, ◌||◌, ◌==◌}
use Rattle.std.specs.Char.{is_ascii_digit}
use Rattle.med_lexer.specs.declared.Mark.{Mark}
use Rattle.med_lexer.specs.declared.Mark.TheVariants as marks
use Rattle.med_lexer.specs.Lexemes.{is_blank, is_start, is_part, Every, Without, Shape, word, quoted, literal, number, mark, Spells, IsEnd, Lexeme}

-- a mark goes on with it, or begins a comment with it
abbrev pub joins : Mark → ℕ → Bool
joins marks.Below b = b == 61 || b == 62
joins marks.Above b = b == 61
joins marks.Minus b = b == 45
joins _ b = false

abbrev pub is_number_joint : ℕ → Bool
is_number_joint b = is_ascii_digit b || is_start b

-- a token of this kind stops before these bytes
abbrev pub Ends : Shape → List ℕ → Type 0
Ends (word w) rest = Without is_part rest
Ends (quoted q) rest = Without (λ b. b == 34) rest
Ends (literal q) rest = Without (λ b. b == 39) rest
Ends (number d) rest = Without is_number_joint rest
Ends (mark m) rest = Without (joins m) rest

abbrev pub Cuts : ℕ → List ℕ → List Lexeme → Type 0
Cuts at text [] = (blanks rest : List ℕ) × Every is_blank blanks × (text ≡ blanks ++ rest) × IsEnd rest
Cuts at text (t ∷ ts) =
    (blanks raw rest : List ℕ) × Every is_blank blanks × (text ≡ blanks ++ (raw ++ rest)) × Spells t.shape raw × Ends t.shape rest
    × (t.start ≡ at + length blanks) × (t.end ≡ t.start + length raw) × Cuts t.end rest ts
