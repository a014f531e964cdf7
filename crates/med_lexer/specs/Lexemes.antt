-- The tokens of a text: the one list of longest tokens that, with the blanks between them and perhaps a comment behind the last,
-- makes up the text. The kinds of token are those of SQL:2016, part 2, 5.2 "<token> and <separator>" and 5.3 "<literal>", in this
-- profile: regular identifiers and key words are one kind, numbers are runs of digits, and a text is a list of bytes in UTF-8.
use Rattle.std.specs.Prelude.{◌≡◌, ℕ, ◌+◌, ◌<◌, ◌≤◌, Bool, true, false, ◌||◌, not, ◌==◌, cond, List, [], ◌∷◌, ◌++◌, length, drop, slice_range, ◌⊎◌}
use Rattle.std.specs.Char.{is_ascii_alphabetic, is_ascii_digit}
use Rattle.std.specs.Str.{str_to_ascii_lowercase}
use Rattle.med_lexer.specs.declared.Mark.{Mark}
use Rattle.med_lexer.specs.declared.Mark.TheVariants as marks

-- ---- bytes

-- space, TAB, CR, LF
abbrev pub is_blank : ℕ → Bool
is_blank b = b == 32 || b == 9 || b == 13 || b == 10

-- a letter or '_', with which a word begins
abbrev pub is_start : ℕ → Bool
is_start b = is_ascii_alphabetic b || b == 95

-- a letter, a digit, '_' or '$', with which it goes on
abbrev pub is_part : ℕ → Bool
is_part b = is_start b || is_ascii_digit b || b == 36

-- U+0000 stands nowhere in a text
abbrev pub is_text : ℕ → Bool
is_text b = not (b == 0)

-- each byte passes
abbrev pub Every : (ℕ → Bool) → List ℕ → Type 0
Every p [] = Unit {0}
Every p (b ∷ bs) = (p b ≡ true) × Every p bs

-- the bytes do not begin with one that passes
abbrev pub Without : (ℕ → Bool) → List ℕ → Type 0
Without p [] = Unit {0}
Without p (b ∷ bs) = p b ≡ false

-- each quote written twice
abbrev pub doubled : ℕ → List ℕ → List ℕ
doubled q [] = []
doubled q (b ∷ bs) = cond (b == q) (q ∷ q ∷ doubled q bs) (b ∷ doubled q bs)

-- between two quotes
abbrev pub between : ℕ → List ℕ → List ℕ
between q bs = q ∷ (doubled q bs ++ q ∷ [])

-- one digit or more, and nothing else
abbrev pub IsDigits : List ℕ → Type 0
IsDigits d = Every is_ascii_digit d × (0 < length d)

-- ---- one token

-- What a token says: a word in lower case, a quoted name or a text without its quotes, digits, or a mark.
pub data Shape : Type 0 where
  word : List ℕ → Shape
  quoted : List ℕ → Shape
  literal : List ℕ → Shape
  number : List ℕ → Shape
  mark : Mark → Shape

abbrev pub mark_bytes : Mark → List ℕ
mark_bytes marks.LeftParen = 40 ∷ []
mark_bytes marks.RightParen = 41 ∷ []
mark_bytes marks.Comma = 44 ∷ []
mark_bytes marks.Dot = 46 ∷ []
mark_bytes marks.Semicolon = 59 ∷ []
mark_bytes marks.Star = 42 ∷ []
mark_bytes marks.Plus = 43 ∷ []
mark_bytes marks.Minus = 45 ∷ []
mark_bytes marks.Slash = 47 ∷ []
mark_bytes marks.Percent = 37 ∷ []
mark_bytes marks.Equal = 61 ∷ []
mark_bytes marks.Apart = 60 ∷ 62 ∷ []
mark_bytes marks.Below = 60 ∷ []
mark_bytes marks.AtMost = 60 ∷ 61 ∷ []
mark_bytes marks.Above = 62 ∷ []
mark_bytes marks.AtLeast = 62 ∷ 61 ∷ []

-- The bytes are one token that says this. A word folds to lower case. A quoted name is between double quotes and not empty, a text
-- between single ones, and a quote in either is written twice. The mark '<>' may be written '!='. A comment is no token.
abbrev pub Spells : Shape → List ℕ → Type 0
Spells (word w) [] = ⊥
Spells (word w) (b ∷ bs) = (is_start b ≡ true) × Every is_part bs × (w ≡ str_to_ascii_lowercase (b ∷ bs))
Spells (quoted q) raw = (raw ≡ between 34 q) × Every is_text q × (0 < length q)
Spells (literal q) raw = (raw ≡ between 39 q) × Every is_text q
Spells (number d) raw = (raw ≡ d) × IsDigits d
Spells (mark m) raw = (raw ≡ mark_bytes m) ⊎ ((m ≡ marks.Apart) × (raw ≡ 33 ∷ 61 ∷ []))

-- `raw` is the longest token at its place: with more of the bytes behind it, it is no token of any kind.
abbrev pub IsLongest : List ℕ → List ℕ → Type 0
IsLongest raw rest = (s : Shape) (more after : List ℕ) → rest ≡ more ++ after → Spells s (raw ++ more) → more ≡ []

-- The token may stand directly before these bytes: a number before no letter and no '_', and a minus before no minus, since two begin
-- a comment.
abbrev pub MayPrecede : Shape → List ℕ → Type 0
MayPrecede (number d) rest = Without is_start rest
MayPrecede (mark m) rest = m ≡ marks.Minus → Without (λ b. b == 45) rest
MayPrecede _ rest = Unit {0}

-- ---- the text

-- the end of a text: nothing, or a comment, which is two minuses and what follows them to the end
abbrev pub IsEnd : List ℕ → Type 0
IsEnd [] = Unit {0}
IsEnd (b ∷ []) = ⊥
IsEnd (b ∷ c ∷ cs) = (b ≡ 45) × (c ≡ 45) × Every is_text cs

-- a token, and the bytes that it covers
pub record Lexeme : Type 0 where
  pub shape : Shape
  pub start : ℕ
  pub end : ℕ

-- The text, whose first byte is at the place `at`, begins with this token behind some blanks, and `rest` follows the token.
pub record BeginsWith (at : ℕ) (text : List ℕ) (t : Lexeme) (rest : List ℕ) : Type 0 where
  pub blanks : List ℕ
  pub raw : List ℕ
  pub parted : Every is_blank blanks
  pub whole : text ≡ blanks ++ (raw ++ rest)
  pub spelled : Spells t.shape raw
  pub longest : IsLongest raw rest
  pub apart : MayPrecede t.shape rest
  pub start : t.start ≡ at + length blanks
  pub end : t.end ≡ t.start + length raw

-- The text, whose first byte is at the place `at`, has these tokens, and behind them blanks and perhaps a comment.
abbrev pub Lexes : ℕ → List ℕ → List Lexeme → Type 0
Lexes at text [] = (blanks rest : List ℕ) × Every is_blank blanks × (text ≡ blanks ++ rest) × IsEnd rest
Lexes at text (t ∷ ts) = (rest : List ℕ) × BeginsWith at text t rest × Lexes t.end rest ts

-- In the text the bytes of the token spell it, and no longer run of bytes from its start spells a token.
pub record IsLongestAt (text : List ℕ) (t : Lexeme) : Type 0 where
  pub spelled : Spells t.shape (slice_range text t.start t.end)
  pub longest : (s : Shape) (raw rest : List ℕ) → drop t.start text ≡ raw ++ rest → Spells s raw → t.start + length raw ≤ t.end
