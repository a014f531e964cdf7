-- Why a text has no tokens.
use Rattle.std.specs.Prelude.{◌≡◌, ℕ, true, false, ◌==◌, List, [], ◌∷◌, ◌++◌, ◌⊎◌}
use Rattle.med_lexer.specs.Lexemes.{is_blank, is_start, is_text, Every, Without, doubled, IsDigits, Shape, Spells, Lexeme, BeginsWith}

-- no front of the bytes is a token of any kind
abbrev pub BeginsNoToken : List ℕ → Type 0
BeginsNoToken rest = (s : Shape) (raw after : List ℕ) → rest ≡ raw ++ after → Spells s raw → ⊥

-- behind the quote q, no other closes it, up to the end of the text or U+0000
abbrev pub IsUnclosed : ℕ → List ℕ → Type 0
IsUnclosed q bs = (w after : List ℕ) → bs ≡ doubled q w ++ q ∷ after → Every is_text w → Without (λ b. b == q) after → ⊥

-- What stands where the next token of a text should begin, and why it is none.
pub data IsFault : List ℕ → Type 0 where
  -- a character that is no blank and no quote, and begins no token
  bad_character : (b : ℕ) (bs : List ℕ) → is_blank b ≡ false → (b ≡ 34 → ⊥) → (b ≡ 39 → ⊥) → BeginsNoToken (b ∷ bs) → IsFault (b ∷ bs)
  -- a quote that is not closed
  open_quote : (q : ℕ) (bs : List ℕ) → (q ≡ 34) ⊎ (q ≡ 39) → IsUnclosed q bs → IsFault (q ∷ bs)
  -- a quoted name with nothing in it
  empty_name : (after : List ℕ) → Without (λ b. b == 34) after → IsFault (34 ∷ 34 ∷ after)
  -- a number directly before a letter or '_'
  number_before_letter : (d : List ℕ) (c : ℕ) (after : List ℕ) → IsDigits d → is_start c ≡ true → IsFault (d ++ c ∷ after)
  -- a comment with U+0000 in it
  zero_in_comment : (front after : List ℕ) → IsFault (45 ∷ 45 ∷ (front ++ 0 ∷ after))

-- The text, whose first byte is at the place `at`, begins with these tokens and blanks behind them, and `rest` follows.
abbrev pub Begins : ℕ → List ℕ → List Lexeme → List ℕ → Type 0
Begins at text [] rest = (blanks : List ℕ) × Every is_blank blanks × (text ≡ blanks ++ rest)
Begins at text (t ∷ ts) rest = (more : List ℕ) × BeginsWith at text t more × Begins t.end more ts rest

-- The text, whose first byte is at the place `at`, begins with some tokens, and a fault stands behind them.
pub record IsFaulty (at : ℕ) (text : List ℕ) : Type 0 where
  pub tokens : List Lexeme
  pub rest : List ℕ
  pub begins : Begins at text tokens rest
  pub fault : IsFault rest
