-- The terminals that tokens are in a statement. NULLS, FIRST, LAST, ROW and ROWS are keywords that are not reserved: elsewhere each is a
-- name.
use Rattle.std.specs.Prelude.{◌≡◌, ℕ, Bool, true, false, cond, List, [], ◌∷◌, ◌⊎◌, codes, Option, Some, None}
use Rattle.std.specs.List.{list_any}
use Rattle.std.specs.Str.{bytes_eq}
use Rattle.med_lexer.specs.Lexemes.{Shape, word}
use Rattle.med_syntax.specs.declared.query_symbols.Place.{Place}
use Rattle.med_syntax.specs.declared.query_symbols.Place.TheVariants as p
use Rattle.med_syntax.specs.declared.expr.Joint.TheVariants.{Or, And}
use Rattle.med_syntax.specs.Tree.{Name}
use Rattle.med_syntax.specs.Words.{is_reserved}
use Rattle.med_syntax.specs.Terminal.{Terminal, IsTerminal}
use Rattle.med_syntax.specs.Terminal as t
use Rattle.med_syntax.specs.ExprTerminals.{follows, terminal_at}

abbrev pub is_one_of : List (List ℕ) → List ℕ → Bool
is_one_of ws w = list_any (λ r. bytes_eq r w) ws

-- keywords of statements that are not reserved
abbrev pub is_free_keyword : List ℕ → Bool
is_free_keyword = is_one_of (codes "nulls" ∷ codes "first" ∷ codes "last" ∷ codes "row" ∷ codes "rows" ∷ [])

-- The token is this terminal of a statement: a keyword that is not reserved is a keyword or a name, and only a name where it is quoted.
abbrev pub IsWord : Shape → Terminal → Type 0
IsWord s u = IsTerminal s u ⊎ ((w : List ℕ) × (s ≡ word w) × (is_free_keyword w ≡ true) × (u ≡ t.Reserved w))

-- the tokens are these terminals of a statement, one by one
abbrev pub AreWords : List Shape → List Terminal → Type 0
AreWords [] [] = Unit {0}
AreWords (s ∷ ss) (u ∷ us) = IsWord s u × AreWords ss us
AreWords _ _ = ⊥

-- the word that a terminal is, or its name
abbrev pub label_of : Terminal → Option Name
label_of (t.Joined And) = Some (codes "and")
label_of (t.Joined Or) = Some (codes "or")
label_of t.Not = Some (codes "not")
label_of t.Between = Some (codes "between")
label_of t.In = Some (codes "in")
label_of t.Is = Some (codes "is")
label_of t.Like = Some (codes "like")
label_of t.Null = Some (codes "null")
label_of (t.Truth true) = Some (codes "true")
label_of (t.Truth false) = Some (codes "false")
label_of (t.Name n) = Some n
label_of (t.Reserved w) = cond (is_reserved w) (Some w) None
label_of _ = None

-- ---- which of the two a word is, by what stands before it

-- the words that are keywords at the place
abbrev pub keywords_at : Place → List (List ℕ)
keywords_at (p.Behind true) = codes "nulls" ∷ []
keywords_at p.Nulls = codes "first" ∷ codes "last" ∷ []
keywords_at p.Counted = codes "row" ∷ codes "rows" ∷ []
keywords_at _ = []

-- whether the place is among the keys of ORDER BY, or behind them
abbrev pub is_ordering : Place → Bool
is_ordering (p.Before b) = b
is_ordering (p.Behind b) = b
is_ordering p.Nulls = true
is_ordering _ = false

abbrev pub behind_reserved : Bool → List ℕ → Place
behind_reserved b w =
    cond (bytes_eq w (codes "as")) p.Label (cond (bytes_eq w (codes "order")) (p.Before true) (cond (bytes_eq w (codes "offset")) p.Offset
    (cond (bytes_eq w (codes "nulls")) p.Nulls (cond (is_one_of (codes "asc" ∷ codes "desc" ∷ []) w) (p.Behind b) (p.Before b)))))

-- the place behind the terminal, which stands among keys or not
abbrev pub behind_terminal : Bool → Terminal → Place
behind_terminal b (t.Reserved w) = behind_reserved b w
behind_terminal b (t.Name n) = p.Behind b
behind_terminal b (t.Num n) = p.Behind b
behind_terminal b (t.Text x) = p.Behind b
behind_terminal b (t.Truth v) = p.Behind b
behind_terminal b t.Null = p.Behind b
behind_terminal b t.Unknown = p.Behind b
behind_terminal b t.RightParen = p.Behind b
behind_terminal b _ = p.Before b

abbrev pub place_behind : Place → Terminal → Place
place_behind p.Label u = p.Behind false
place_behind p.Offset (t.Num n) = p.Counted
place_behind at u = behind_terminal (is_ordering at) u

-- the terminal of a token at the place, where UNKNOWN is the keyword or not
abbrev pub word_at : Place → Bool → Shape → Terminal
word_at at b (word w) = cond (is_one_of (keywords_at at) w) (t.Reserved w) (terminal_at b (word w))
word_at at b s = terminal_at b s

abbrev pub words_at : Place → Bool → List Shape → List Terminal
words_at at b [] = []
words_at at b (s ∷ ss) = word_at at b s ∷ words_at (place_behind at (word_at at b s)) (follows b (word_at at b s)) ss
