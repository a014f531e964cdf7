-- Keywords that are not reserved, and what tokens are read as where one may stand.
use Rattle.std.proofs.Common.{◌≡◌, ℕ, ◌⊎◌, inl, inr, Bool, true, false, cond, List, [], ◌∷◌, refl, sym, ◌∙◌, ap, subst, codes}
use Rattle.std.specs.Prelude.{◌||◌}
use Rattle.std.specs.Str.{bytes_eq}
use Rattle.std.proofs.lemmas.Slice.Eq.{bytes_eq-Decides}
use Rattle.med_lexer.specs.Lexemes.{Shape, word, quoted, literal, number, mark}
use Rattle.med_syntax.specs.declared.query_symbols.Place.{Place}
use Rattle.med_syntax.specs.declared.query_symbols.Place.TheVariants as p
use Rattle.med_syntax.specs.Words.{is_reserved}
use Rattle.med_syntax.specs.Terminal.{Terminal, IsTerminal}
use Rattle.med_syntax.specs.Terminal as t
use Rattle.med_syntax.specs.ExprTerminals.{follows, terminal_at}
use Rattle.med_syntax.specs.QueryTerminals.{is_one_of, is_free_keyword, IsWord, AreWords, keywords_at, place_behind, word_at, words_at}
use Rattle.med_syntax.proofs.ExprTerminals.{Allowed, Good, same_terminals, terminals_are}

-- ---- keywords that are not reserved

-- what holds of these words, holds of each of them
one_case : (Q : List ℕ → Type 0) (v : List ℕ) (vs : List (List ℕ)) (w : List ℕ) → Q v → (is_one_of vs w ≡ true → Q w) → is_one_of (v ∷ vs) w ≡ true → Q w
one_case Q v vs w q other h =
    let go : (b : Bool) → bytes_eq v w ≡ b → (b || is_one_of vs w) ≡ true → Q w = elim [ true ↦ (λ e k. subst Q ((bytes_eq-Decides v w).0 e) q) | false ↦ (λ e k. other k) ] in go (bytes_eq v w) refl h

none_case : (Q : List ℕ → Type 0) (w : List ℕ) → is_one_of [] w ≡ true → Q w
none_case Q w h = absurd (let bad : ◌≡◌ {A = Bool} false true = h in cc)

record Keywords (Q : List ℕ → Type 0) : Type 0 where
  nulls : Q (codes "nulls")
  first : Q (codes "first")
  last : Q (codes "last")
  row : Q (codes "row")
  rows : Q (codes "rows")

place_case : (Q : List ℕ → Type 0) → Keywords Q → (at : Place) (w : List ℕ) → is_one_of (keywords_at at) w ≡ true → Q w
place_case Q k (p.Behind true) w h = one_case Q (codes "nulls") [] w k.nulls (none_case Q w) h
place_case Q k p.Nulls w h = one_case Q (codes "first") (codes "last" ∷ []) w k.first (one_case Q (codes "last") [] w k.last (none_case Q w)) h
place_case Q k p.Counted w h = one_case Q (codes "row") (codes "rows" ∷ []) w k.row (one_case Q (codes "rows") [] w k.rows (none_case Q w)) h
place_case Q k at w h = none_case Q w h

free_case : (Q : List ℕ → Type 0) → Keywords Q → (w : List ℕ) → is_free_keyword w ≡ true → Q w
free_case Q k w h =
    one_case Q (codes "nulls") (codes "first" ∷ codes "last" ∷ codes "row" ∷ codes "rows" ∷ []) w k.nulls
    (one_case Q (codes "first") (codes "last" ∷ codes "row" ∷ codes "rows" ∷ []) w k.first
    (one_case Q (codes "last") (codes "row" ∷ codes "rows" ∷ []) w k.last
    (one_case Q (codes "row") (codes "rows" ∷ []) w k.row
    (one_case Q (codes "rows") [] w k.rows (none_case Q w))))) h

-- the name that such a word is elsewhere
abbrev Named : List ℕ → Type 0
Named w = (b : Bool) → terminal_at b (word w) ≡ t.Name w

all_named : Keywords Named
unfolding is_reserved
all_named = record {
  nulls = elim [ true ↦ refl | false ↦ refl ];
  first = elim [ true ↦ refl | false ↦ refl ];
  last = elim [ true ↦ refl | false ↦ refl ];
  row = elim [ true ↦ refl | false ↦ refl ];
  rows = elim [ true ↦ refl | false ↦ refl ];
}

pub keyword_name : (at : Place) (w : List ℕ) → is_one_of (keywords_at at) w ≡ true → (b : Bool) → terminal_at b (word w) ≡ t.Name w
keyword_name at w h = place_case Named all_named at w h

all_free : Keywords (λ w. is_free_keyword w ≡ true)
all_free = record { nulls = refl; first = refl; last = refl; row = refl; rows = refl }

keyword_free : (at : Place) (w : List ℕ) → is_one_of (keywords_at at) w ≡ true → is_free_keyword w ≡ true
keyword_free at w h = place_case (λ v. is_free_keyword v ≡ true) all_free at w h

none_reserved : Keywords (λ w. is_reserved w ≡ false)
unfolding is_reserved
none_reserved = record { nulls = refl; first = refl; last = refl; row = refl; rows = refl }

pub free_reserved : (w : List ℕ) → is_free_keyword w ≡ true → is_reserved w ≡ false
free_reserved w h = free_case (λ v. is_reserved v ≡ false) none_reserved w h

pub reserved_free : (w : List ℕ) → is_reserved w ≡ true → is_free_keyword w ≡ false
reserved_free w h =
    let go : (b : Bool) → is_free_keyword w ≡ b → b ≡ false = elim [
      | true ↦ (λ k. absurd (let f : is_reserved w ≡ false = free_case (λ v. is_reserved v ≡ false) none_reserved w k in cc))
      | false ↦ (λ k. refl)
    ]
    in go (is_free_keyword w) refl

-- ---- tokens are the terminals that they are read as

word_is : (at : Place) (b : Bool) (w : List ℕ) → IsTerminal (word w) (terminal_at b (word w)) → (k : Bool) → is_one_of (keywords_at at) w ≡ k → IsWord (word w) (cond k (t.Reserved w) (terminal_at b (word w)))
word_is at b w i true h = inr (w, refl, keyword_free at w h, refl)
word_is at b w i false h = inl i

token_is : (at : Place) (b : Bool) (s : Shape) → IsTerminal s (terminal_at b s) → IsWord s (word_at at b s)
token_is at b (word w) i = word_is at b w i (is_one_of (keywords_at at) w) refl
token_is at b (quoted q) i = inl i
token_is at b (literal x) i = inl i
token_is at b (number d) i = inl i
token_is at b (mark m) i = inl i

pub words_are : (at : Place) (b : Bool) (ss : List Shape) → AreWords ss (words_at at b ss)
words_are at b [] = tt
words_are at b (s ∷ ss) = (token_is at b s (terminals_are b (s ∷ [])).0, words_are (place_behind at (word_at at b s)) (follows b (word_at at b s)) ss)

-- ---- where a keyword that is not reserved stands, no name does, and elsewhere it is none

abbrev pub Permits : Place → Terminal → Type 0
Permits at (t.Name n) = is_one_of (keywords_at at) n ≡ false
Permits at (t.Reserved w) = (is_free_keyword w ≡ false) ⊎ (is_one_of (keywords_at at) w ≡ true)
Permits at u = Unit {0}

abbrev pub Fine : Place → List Terminal → Type 0
Fine at [] = Unit {0}
Fine at (u ∷ us) = Permits at u × Fine (place_behind at u) us

head_same : (u v : Terminal) → ◌≡◌ {A = List Terminal} (u ∷ []) (v ∷ []) → u ≡ v
head_same u v h = cc

terminal_same : (b : Bool) (s : Shape) (u : Terminal) → IsTerminal s u → Allowed b u → u ≡ terminal_at b s
terminal_same b s u h a = head_same u (terminal_at b s) (same_terminals b (s ∷ []) (u ∷ []) (h, tt) (a, tt))

named_same : (at : Place) (b : Bool) (w : List ℕ) (u : Terminal) → u ≡ terminal_at b (word w) → Permits at u → (k : Bool) → is_one_of (keywords_at at) w ≡ k → u ≡ cond k (t.Reserved w) (terminal_at b (word w))
named_same at b w u h f true k =
    absurd (let n : is_one_of (keywords_at at) w ≡ false = subst (Permits at) (h ∙ keyword_name at w k b) f in cc)
named_same at b w u h f false k = h

plain_same : (at : Place) (b : Bool) (s : Shape) (u : Terminal) → u ≡ terminal_at b s → Permits at u → u ≡ word_at at b s
plain_same at b (word w) u h f = named_same at b w u h f (is_one_of (keywords_at at) w) refl
plain_same at b (quoted q) u h f = h
plain_same at b (literal x) u h f = h
plain_same at b (number d) u h f = h
plain_same at b (mark m) u h f = h

kept_same : (at : Place) (b : Bool) (w : List ℕ) (k : Bool) → is_one_of (keywords_at at) w ≡ k → k ≡ true → t.Reserved w ≡ cond k (t.Reserved w) (terminal_at b (word w))
kept_same at b w true h e = refl
kept_same at b w false h e = absurd (cc)

free_same : (at : Place) (b : Bool) (w : List ℕ) → is_free_keyword w ≡ true → Permits at (t.Reserved w) → t.Reserved w ≡ word_at at b (word w)
free_same at b w h (inl f) = absurd (cc)
free_same at b w h (inr f) = kept_same at b w (is_one_of (keywords_at at) w) refl f

same_word : (at : Place) (b : Bool) (s : Shape) (u : Terminal) → IsWord s u → Allowed b u → Permits at u → u ≡ word_at at b s
same_word at b s u (inl h) a f = plain_same at b s u (terminal_same b s u h a) f
same_word at b s u (inr h) a f = h.3 ∙ free_same at b h.0 h.2 (subst (Permits at) h.3 f) ∙ ap (word_at at b) (sym h.1)

consed : (at : Place) (b : Bool) (s : Shape) (ss : List Shape) (u : Terminal) (us : List Terminal) → u ≡ word_at at b s → us ≡ words_at (place_behind at u) (follows b u) ss → u ∷ us ≡ words_at at b (s ∷ ss)
consed at b s ss u us h k = (λ i. h i ∷ (k ∙ ap (λ v. words_at (place_behind at v) (follows b v) ss) h) i)

pub same_words : (at : Place) (b : Bool) (ss : List Shape) (us : List Terminal) → AreWords ss us → Good b us → Fine at us → us ≡ words_at at b ss
same_words at b [] [] h g f = refl
same_words at b [] (u ∷ us) h g f = absurd h
same_words at b (s ∷ ss) [] h g f = absurd h
same_words at b (s ∷ ss) (u ∷ us) h g f = consed at b s ss u us (same_word at b s u h.0 g.0 f.0) (same_words (place_behind at u) (follows b u) ss us h.1 g.1 f.1)
