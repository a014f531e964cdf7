-- The numbers of rows that are held for the tables of a database, after one is put in.
use Rattle.std.proofs.Common.{
  ◌≡◌,
  ◌≢◌,
  ◌∙◌,
  ◌⊎◌,
  ℕ,
  ◌≤◌,
  true,
  List,
  [],
  ◌∷◌,
  Option,
  Some,
  None,
  length,
  slice_set,
  IfSome,
  zero,
  suc,
  inl,
  inr,
  refl,
  sym,
  ap,
  subst,
  arith,
  nat_lt,
}
use Rattle.std.proofs.lemmas.Option.{same_Some}
use Rattle.sqlite.specs.Effect.{Database}
use Rattle.med_value.specs.Limits.{row_limit}
use Rattle.sqlite_tables.specs.Prelude.{layout_at, layout_count, rows_of}
use Rattle.sqlite_wrapper.specs.Boxes.{rows_at}
use Rattle.sqlite_wrapper.specs.Counts.{AreCounts, AreFew, Forgets, held_for}

not_both : (o : Option ℕ) (n : ℕ) → o ≡ None → o ≡ Some n → ⊥
not_both o n none some = let e = sym none ∙ some in absurd cc

-- nothing is held where nothing was put in
pub none_counts : (db : Database) (counts : List (Option ℕ)) → ((t : ℕ) → held_for counts t ≡ None) → AreCounts db counts
none_counts db counts none t n e = absurd (not_both (held_for counts t) n (none t) e)

pub none_few : (counts : List (Option ℕ)) → ((t : ℕ) → held_for counts t ≡ None) → AreFew counts
none_few counts none t n e = absurd (not_both (held_for counts t) n (none t) e)

next_one : (t q n : ℕ) (c o : Option ℕ) → ((q ≡ t) × (c ≡ Some n)) ⊎ ((q ≢ t) × (o ≡ Some n)) → ((suc q ≡ suc t) × (c ≡ Some n))
    ⊎ ((suc q ≢ suc t) × (o ≡ Some n))
next_one t q n c o (inl e) = inl (ap suc e.0, e.1)
next_one t q n c o (inr e) = inr (λ same. e.0 (omega arith), e.1)

-- what is held then is what was put in, at its place, or was held before, at another
pub put_is : (counts : List (Option ℕ)) (t q n : ℕ) (c : Option ℕ) → held_for (slice_set counts t c) q ≡ Some n
    → ((q ≡ t) × (c ≡ Some n)) ⊎ ((q ≢ t) × (held_for counts q ≡ Some n))
put_is [] t q n c e = absurd cc
put_is (x ∷ xs) zero zero n c e = inl (refl, e)
put_is (x ∷ xs) zero (suc q) n c e = inr (λ same. absurd (omega arith), e)
put_is (x ∷ xs) (suc t) zero n c e = inr (λ same. absurd (omega arith), e)
put_is (x ∷ xs) (suc t) (suc q) n c e = next_one t q n c (held_for xs q) (put_is xs t q n c e)

-- a table's number is put in, and the other tables have the rows that they had
pub put_counts : (old new : Database) (counts : List (Option ℕ)) (t count : ℕ) → AreCounts old counts → nat_lt t layout_count ≡ true
    → count ≡ length (rows_of new (layout_at t))
    → ((q : ℕ) → q ≢ t → rows_at new q ≡ rows_at old q) → AreCounts new (slice_set counts t (Some count))
put_counts old new counts t count are within is others q n e = go (put_is counts t q n (Some count) e)
  where
    here : count ≡ length (rows_at new t)
    here = rw within is

    go : ((q ≡ t) × (◌≡◌ {A = Option ℕ} (Some count) (Some n))) ⊎ ((q ≢ t) × (held_for counts q ≡ Some n)) → n ≡ length (rows_at new q)
    go (inl s) = sym (same_Some _ _ s.1) ∙ here ∙ ap (λ (k : ℕ). length (rows_at new k)) (sym s.0)
    go (inr s) = are q n s.1 ∙ ap length (sym (others q s.0))

-- what is held for a table, read off
pub held_is : (db : Database) (counts : List (Option ℕ)) (t : ℕ) (o : Option ℕ) → AreCounts db counts → nat_lt t layout_count ≡ true
    → o ≡ held_for counts t
    → IfSome o (λ n. n ≡ length (rows_of db (layout_at t)))
held_is db counts t None are within e = tt
held_is db counts t (Some n) are within e = rw within at (are t n (sym e))

pub held_few : (counts : List (Option ℕ)) (t : ℕ) (o : Option ℕ) → AreFew counts → o ≡ held_for counts t → IfSome o (λ n. n ≤ row_limit)
held_few counts t None few e = tt
held_few counts t (Some n) few e = few t n (sym e)

pub put_few : (counts : List (Option ℕ)) (t count : ℕ) → AreFew counts → count ≤ row_limit → AreFew (slice_set counts t (Some count))
put_few counts t count few le q n e = go (put_is counts t q n (Some count) e)
  where
    go : ((q ≡ t) × (◌≡◌ {A = Option ℕ} (Some count) (Some n))) ⊎ ((q ≢ t) × (held_for counts q ≡ Some n)) → n ≤ row_limit
    go (inl s) = subst (λ (k : ℕ). k ≤ row_limit) (same_Some _ _ s.1) le
    go (inr s) = few q n s.1

pub forget_counts : (db : Database) (old new : List (Option ℕ)) → Forgets old new → AreCounts db old → AreCounts db new
forget_counts db old new forgets are t n e = are t n (forgets t n e)

pub forget_few : (old new : List (Option ℕ)) → Forgets old new → AreFew old → AreFew new
forget_few old new forgets few t n e = few t n (forgets t n e)
