-- What is read so is spelled so.
use Rattle.std.proofs.Common.{◌≡◌, ℕ, inl, inr, Bool, true, false, cond, List, [], ◌∷◌, refl, subst, codes}
use Rattle.std.specs.Prelude.{Result, Ok, Err, Option, Some, None}
use Rattle.std.specs.Str.Parse.{digits_value}
use Rattle.med_lexer.specs.declared.Mark.TheVariants as marks
use Rattle.med_lexer.specs.Lexemes.{Shape, word, number, mark}
use Rattle.med_syntax.specs.declared.refusal.Refusal.{Refusal}
use Rattle.med_syntax.specs.declared.refusal.Refusal.TheVariants.{Syntax}
use Rattle.med_syntax.specs.Prelude.{choose, CountTree, some_rows, all_rows, CursorTree, declare, fetch, close}
use Rattle.med_syntax.proofs.ExprSound.{ok_same}
use Rattle.ddl_parser.specs.DdlGrammar.{Form, Both, ◌⋯◌, Words, WordsOrNot, IsEnd}
use Rattle.ddl_parser.specs.DdlReading.{behind_word, expect, words_if, name_of, is_end}
use Rattle.ddl_parser.proofs.DdlSound.{FoundForm, Sound, word_is, found_both, found_as, err_ok, seq_sound, word_found, nothing_found, expect_sound, if_sound, or_not, name_sound}
use Rattle.write_parser.specs.CursorGrammar.{Properties, Declaring, CountIs, FromOrIn, Fetching, Closing, IsCursor}
use Rattle.write_parser.specs.CursorReading.{held_of, properties_of, declared_of, next_of, word_count_of, count_of, from_of, fetch_of, close_of, plain_of, ended, plain_line}

-- ---- DECLARE

abbrev Held : Form
Held = Words (codes "cursor" ∷ []) ⋯ (WordsOrNot (codes "with" ∷ codes "hold" ∷ []) ⋯ Words (codes "for" ∷ []))

held_sound : Sound (λ (u : Unit {0}). Held) held_of
unfolding held_of
held_sound ts u rest h =
    let hold : List (List ℕ) = codes "with" ∷ codes "hold" ∷ [] in
    let a = seq_sound (expect (codes "cursor" ∷ [])) _ ts u rest h in
    let b = seq_sound (words_if hold) _ a.1 u rest a.3 in
    found_both (expect_sound (codes "cursor" ∷ []) ts a.0 a.1 a.2) (found_both (or_not hold b.0 a.1 b.1 (if_sound hold a.1 b.0 b.1 b.2)) (expect_sound (codes "for" ∷ []) b.1 u rest b.3))

properties_sound : Sound (λ (u : Unit {0}). Properties) properties_of
unfolding properties_of
properties_sound ts u rest h =
    let insensitive : List (List ℕ) = codes "insensitive" ∷ [] in
    let scroll : List (List ℕ) = codes "no" ∷ codes "scroll" ∷ [] in
    let a = seq_sound (words_if insensitive) _ ts u rest h in
    let b = seq_sound (words_if scroll) _ a.1 u rest a.3 in
    found_both (or_not insensitive a.0 ts a.1 (if_sound insensitive ts a.0 a.1 a.2))
    (found_both (or_not scroll b.0 a.1 b.1 (if_sound scroll a.1 b.0 b.1 b.2)) (held_sound b.1 u rest b.3))

pub declared_sound : Sound Declaring declared_of
unfolding declared_of
declared_sound ts n rest h =
    let a = seq_sound (expect (codes "declare" ∷ [])) _ ts n rest h in
    let b = seq_sound name_of _ a.1 n rest a.3 in
    let c = seq_sound properties_of _ b.1 n rest b.3 in
    found_as Declaring ts b.0 n c.1 rest c.3
    (found_both (expect_sound (codes "declare" ∷ []) ts a.0 a.1 a.2) (found_both (name_sound a.1 b.0 b.1 b.2) (properties_sound b.1 c.0 c.1 c.2)))

-- ---- FETCH and CLOSE

next_at : (ts after : List Shape) (c : CountTree) (rest : List Shape) (b : Bool) → behind_word (codes "next") ts ≡ Some after → ◌≡◌ {A = Result (CountTree × List Shape) Refusal} (Ok (some_rows 1, cond b ts after)) (Ok (c, rest)) → FoundForm (CountIs c) ts rest
next_at ts after c rest true p e = found_as CountIs ts (some_rows 1) c ts rest e (nothing_found (CountIs (some_rows 1)) ts (inl (inl refl, refl)))
next_at ts after c rest false p e =
    found_as CountIs ts (some_rows 1) c after rest e (record { front = word (codes "next") ∷ []; is = word_is (codes "next") ts after p; spelled = inl (inr refl, refl) })

next_sound : Sound CountIs next_of
unfolding next_of
next_sound ts c rest h =
    let go : (o : Option (List Shape)) → behind_word (codes "next") ts ≡ o → choose {B = Result (CountTree × List Shape) Refusal} o (Ok (some_rows 1, ts)) (λ after. Ok (some_rows 1, cond (is_end after) ts after)) ≡ Ok (c, rest) → FoundForm (CountIs c) ts rest = elim [
      | None ↦ (λ p e. found_as CountIs ts (some_rows 1) c ts rest e (nothing_found (CountIs (some_rows 1)) ts (inl (inl refl, refl))))
      | Some after ↦ (λ p e. next_at ts after c rest (is_end after) p e)
    ]
    in go (behind_word (codes "next") ts) refl h

word_count_sound : Sound CountIs word_count_of
unfolding word_count_of
word_count_sound ts c rest h =
    let go : (o : Option (List Shape)) → behind_word (codes "all") ts ≡ o → choose {B = Result (CountTree × List Shape) Refusal} o (next_of ts) (λ after. Ok (all_rows, after)) ≡ Ok (c, rest) → FoundForm (CountIs c) ts rest = elim [
      | None ↦ (λ p e. next_sound ts c rest e)
      | Some after ↦ (λ p e. found_as CountIs ts all_rows c after rest e (word_found (codes "all") ts after p))
    ]
    in go (behind_word (codes "all") ts) refl h

count_sound : Sound CountIs count_of
count_sound [] c rest h = word_count_sound [] c rest h
count_sound (number d ∷ us) c rest h =
    found_as CountIs (number d ∷ us) (some_rows (digits_value 10 d)) c us rest h (record { front = number d ∷ []; is = refl; spelled = inr (d, refl, refl) })
count_sound (t ∷ us) c rest h = word_count_sound (t ∷ us) c rest h

from_sound : Sound (λ (u : Unit {0}). FromOrIn) from_of
unfolding from_of
from_sound ts u rest h =
    let other : (o : Option (List Shape)) → behind_word (codes "in") ts ≡ o → choose {B = Result (Unit {0} × List Shape) Refusal} o (Ok (tt, ts)) (λ after. Ok (tt, after)) ≡ Ok (u, rest) → FoundForm FromOrIn ts rest = elim [
      | None ↦ (λ p e. found_as (λ (v : Unit {0}). FromOrIn) ts tt u ts rest e (nothing_found FromOrIn ts (inl refl)))
      | Some after ↦ (λ p e. found_as (λ (v : Unit {0}). FromOrIn) ts tt u after rest e (record { front = word (codes "in") ∷ []; is = word_is (codes "in") ts after p; spelled = inr (inr refl) }))
    ]
    in
    let go : (o : Option (List Shape)) → behind_word (codes "from") ts ≡ o → choose {B = Result (Unit {0} × List Shape) Refusal} o (choose (behind_word (codes "in") ts) (Ok (tt, ts)) (λ after. Ok (tt, after))) (λ after. Ok (tt, after)) ≡ Ok (u, rest) → FoundForm FromOrIn ts rest = elim [
      | None ↦ (λ p e. other (behind_word (codes "in") ts) refl e)
      | Some after ↦ (λ p e. found_as (λ (v : Unit {0}). FromOrIn) ts tt u after rest e (record { front = word (codes "from") ∷ []; is = word_is (codes "from") ts after p; spelled = inr (inl refl) }))
    ]
    in go (behind_word (codes "from") ts) refl h

-- a statement without a query
abbrev pub Plain : CursorTree → Form
Plain (declare n q) = λ ts. ⊥
Plain (fetch c n) = Fetching c n
Plain (close n) = Closing n

fetch_sound : (ts before : List Shape) (d : CursorTree) (rest : List Shape) → FoundForm (Words (codes "fetch" ∷ [])) ts before → fetch_of before ≡ Ok (d, rest) → FoundForm (Plain d) ts rest
unfolding fetch_of
fetch_sound ts before d rest f h =
    let a = seq_sound count_of _ before d rest h in
    let b = seq_sound from_of _ a.1 d rest a.3 in
    let c = seq_sound name_of _ b.1 d rest b.3 in
    found_as Plain ts (fetch a.0 c.0) d c.1 rest c.3 (found_both f (found_both (count_sound before a.0 a.1 a.2) (found_both (from_sound a.1 b.0 b.1 b.2) (name_sound b.1 c.0 c.1 c.2))))

close_sound : (ts before : List Shape) (d : CursorTree) (rest : List Shape) → FoundForm (Words (codes "close" ∷ [])) ts before → close_of before ≡ Ok (d, rest) → FoundForm (Plain d) ts rest
unfolding close_of
close_sound ts before d rest f h =
    let a = seq_sound name_of _ before d rest h in
    found_as Plain ts (close a.0) d a.1 rest a.3 (found_both f (name_sound before a.0 a.1 a.2))

plain_sound : Sound Plain plain_of
unfolding plain_of
plain_sound ts d rest h =
    let other : (o : Option (List Shape)) → behind_word (codes "close") ts ≡ o → choose o (Err Syntax) close_of ≡ Ok (d, rest) → FoundForm (Plain d) ts rest = elim [
      | None ↦ (λ p e. absurd (err_ok Syntax (d, rest) e))
      | Some after ↦ (λ p e. close_sound ts after d rest (word_found (codes "close") ts after p) e)
    ]
    in
    let go : (o : Option (List Shape)) → behind_word (codes "fetch") ts ≡ o → choose o (choose (behind_word (codes "close") ts) (Err Syntax) close_of) fetch_of ≡ Ok (d, rest) → FoundForm (Plain d) ts rest = elim [
      | None ↦ (λ p e. other (behind_word (codes "close") ts) refl e)
      | Some after ↦ (λ p e. fetch_sound ts after d rest (word_found (codes "fetch") ts after p) e)
    ]
    in go (behind_word (codes "fetch") ts) refl h

end_sound : (ts : List Shape) (r d : CursorTree) → cond (is_end ts) (Ok r) (Err Syntax) ≡ Ok d → IsEnd ts × (r ≡ d)
end_sound [] r d h = (inl refl, ok_same r d h)
end_sound (mark marks.Semicolon ∷ []) r d h = (inr refl, ok_same r d h)
end_sound ts r d h = absurd (err_ok Syntax d h)

plain_is : (ts : List Shape) (d : CursorTree) → Both (Plain d) IsEnd ts → IsCursor ts d
plain_is ts (declare n q) s = absurd s.first
plain_is ts (fetch c n) s = s
plain_is ts (close n) s = s

pub plain_line_sound : (ts : List Shape) (d : CursorTree) → plain_line ts ≡ Ok d → Both (Plain d) IsEnd ts
unfolding plain_line
plain_line_sound ts d h =
    let go : (r : Result (CursorTree × List Shape) Refusal) → plain_of ts ≡ r → ended r ≡ Ok d → Both (Plain d) IsEnd ts = elim [
      | Ok x ↦ (λ p q.
          let f : FoundForm (Plain x.0) ts x.1 = plain_sound ts x.0 x.1 p in
          let e = end_sound x.1 x.0 d q in
          record { front = f.front; behind = x.1; is = f.is; first = subst (λ r. Plain r f.front) e.1 f.spelled; second = e.0 })
      | Err e ↦ (λ p q. absurd (err_ok Syntax d q))
    ]
    in go (plain_of ts) refl h

pub plain_found : (ts : List Shape) (d : CursorTree) → plain_line ts ≡ Ok d → IsCursor ts d
plain_found ts d h = plain_is ts d (plain_line_sound ts d h)
