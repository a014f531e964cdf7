-- The rows of a table after some were taken out and others put in: a permutation of those that stay and those that come.
use Rattle.std.proofs.Common.{◌≡◌, ℤ, Bool, true, false, not, ◌&&◌, ◌||◌, cond, List, [], ◌∷◌, ◌++◌, map, filter, IsTrue, refl, sym, ap}
use Rattle.std.proofs.Common.{ap₂, ◌∙◌, subst, IsPermutation}
use Rattle.std.specs.declared.cmp.Ordering.{Ordering}
use Rattle.std.specs.declared.cmp.Ordering.TheVariants.{Less, Equal, Greater}
use Rattle.std.specs.Ordering.{is_eq, int_cmp, match_ordering, ordering_reverse}
use Rattle.std.specs.List.{AllByRecursion, list_any}
use Rattle.std.proofs.lemmas.Bool.{or_parts, or_left, or_right}
use Rattle.std.proofs.lemmas.Cmp.{int_cmp_total}
use Rattle.std.proofs.lemmas.List.Folds.{list_any-append}
use Rattle.std.proofs.lemmas.List.{map-append}
use Rattle.std.proofs.lemmas.List.Sorted.{IsPermutation-refl, IsPermutation-cons, IsPermutation-middle, IsPermutation-trans}
use Rattle.std.proofs.lemmas.List.Sorted.{IsPermutation-sym, IsPermutation-map, IsPermutation-append_right}
use Rattle.sqlite.specs.declared.types.Value.{Value as SqlValue}
use Rattle.sqlite.specs.declared.types.Value.TheVariants.{Null, Int, Real, Text, Blob}
use Rattle.sqlite.specs.Order.{Row as SqlRow, value_cmp}
use Rattle.sqlite.specs.Edit.{id_in, without_all, put_all, is_taken, are_fresh}
use Rattle.sqlite.specs.Tree.{rowid, has_rowid, put_row, without_rowid, IsTable}
use Rattle.sqlite.specs.View.{IsShaped, is_int}
use Rattle.sqlite_trees.specs.declared.store.Shape.TheVariants as shape
use Rattle.sqlite_trees.proofs.ListLemmas.{all-filter, ascending-filter, IsPermutation-filter}
use Rattle.sqlite_trees.proofs.TreeLemmas.{all-put_row, IsTable-put_row}
use Rattle.sqlite_value.proofs.OrderLemmas.{value_cmp-Int}
use Rattle.sqlite_tables.specs.Prelude.{key_of}
use Rattle.sqlite_tables.proofs.PagesJoin.{Ints}
use Rattle.med_value.specs.Datum.{Datum, Whole}
use Rattle.sqlite_writes.specs.Kinds.{repeats}
use Rattle.sqlite_writes.proofs.Repeats.{is_same, repeats_alike}

-- the key of a row as a value
abbrev pub key_value : SqlRow → Datum
key_value e = Whole (key_of e)

int_form : (v : SqlValue) → IsTrue (is_int v) → v ≡ Int (id_in v)
int_form Null h = absurd cc
int_form (Int n) h = refl
int_form (Real x) h = absurd cc
int_form (Text t) h = absurd cc
int_form (Blob b) h = absurd cc

-- rows with integer keys are ordered as their keys are
pub by_number : (v w : SqlValue) → IsTrue (is_int v) → IsTrue (is_int w) → value_cmp v w ≡ int_cmp (id_in v) (id_in w)
by_number v w h k = ap₂ value_cmp (int_form v h) (int_form w k) ∙ value_cmp-Int (id_in v) (id_in w)

pub has_key_of : (k : ℤ) (e : SqlRow) → IsTrue (is_int (rowid e)) → has_rowid k e ≡ is_eq (int_cmp (key_of e) k)
has_key_of k e h = ap is_eq (by_number (rowid e) (Int k) h refl)

-- ---- rows taken out

pub filter_twice : {A : Type 0} (a b : A → Bool) (xs : List A)
    → filter (λ x. not (b x)) (filter (λ x. not (a x)) xs) ≡ filter (λ x. not (a x || b x)) xs
filter_twice a b [] = refl
filter_twice {A} a b (x ∷ xs) = go (a x) (b x) refl (filter_twice a b xs)
  where
    go : (p q : Bool) → b x ≡ q → filter (λ x. not (b x)) (filter (λ x. not (a x)) xs) ≡ filter (λ x. not (a x || b x)) xs
        → filter (λ x. not (b x)) (cond (not p) (x ∷ filter (λ x. not (a x)) xs) (filter (λ x. not (a x)) xs))
        ≡ cond (not (p || q)) (x ∷ filter (λ x. not (a x || b x)) xs) (filter (λ x. not (a x || b x)) xs)
    go true q e more = more
    go false true e more = rw e more
    go false false e more = rw e (ap (λ l. x ∷ l) more)

-- a key is among those that go
abbrev pub goes : List ℤ → SqlRow → Bool
goes gone e = list_any (λ k. has_rowid k e) gone

pub filter_true : {A : Type 0} (xs : List A) → xs ≡ filter (λ x. true) xs
filter_true [] = refl
filter_true (x ∷ xs) = ap (λ l. x ∷ l) (filter_true xs)

pub without_all_is : (gone : List ℤ) (rows : List SqlRow) → without_all rows gone ≡ filter (λ e. not (goes gone e)) rows
without_all_is [] rows = filter_true rows
without_all_is (k ∷ gone) rows = without_all_is gone (without_rowid k rows) ∙ filter_twice (has_rowid k) (goes gone) rows

pub filters_commute : {A : Type 0} (p q : A → Bool) (xs : List A) → filter p (filter q xs) ≡ filter q (filter p xs)
filters_commute p q [] = refl
filters_commute {A} p q (x ∷ xs) = go (p x) (q x) refl refl (filters_commute p q xs)
  where
    go : (a b : Bool) → p x ≡ a → q x ≡ b → filter p (filter q xs) ≡ filter q (filter p xs)
        → filter p (cond b (x ∷ filter q xs) (filter q xs)) ≡ filter q (cond a (x ∷ filter p xs) (filter p xs))
    go true true d e more = rw (d, e) (ap (λ l. x ∷ l) more)
    go true false d e more = rw e more
    go false true d e more = rw d more
    go false false d e more = more

-- ---- rows put in

put_row_permutes : (new : SqlRow) (rows : List SqlRow) → is_taken rows new ≡ false → IsPermutation (new ∷ rows) (put_row new rows)
put_row_permutes new [] free = IsPermutation-refl (new ∷ [])
put_row_permutes new (r ∷ rows) free = go (value_cmp (rowid r) (rowid new)) (or_parts _ _ free).0 (put_row_permutes new rows
    (or_parts _ _ free).1)
  where
    go : (o : Ordering) → is_eq o ≡ false → IsPermutation (new ∷ rows) (put_row new rows)
        → IsPermutation (new ∷ r ∷ rows) (match_ordering o (r ∷ put_row new rows) (new ∷ rows) (new ∷ r ∷ rows))
    go Less e more = IsPermutation-trans _ _ _ (IsPermutation-middle (new ∷ []) r rows) (IsPermutation-cons r _ _ more)
    go Equal e more = absurd cc
    go Greater e more = IsPermutation-refl (new ∷ r ∷ rows)

pub put_all_permutes : (news rows : List SqlRow) → are_fresh rows news ≡ true → IsPermutation (news ++ rows) (put_all rows news)
put_all_permutes [] rows fresh = IsPermutation-refl rows
put_all_permutes (r ∷ news) rows fresh = go (is_taken rows r) refl fresh (put_all_permutes news (put_row r rows))
  where
    go : (b : Bool) → is_taken rows r ≡ b → (not b && are_fresh (put_row r rows) news) ≡ true
        → (are_fresh (put_row r rows) news ≡ true → IsPermutation (news ++ put_row r rows) (put_all (put_row r rows) news))
        → IsPermutation (r ∷ (news ++ rows)) (put_all (put_row r rows) news)
    go true e h more = absurd cc
    go false e h more =
        IsPermutation-trans _ _ _ (IsPermutation-sym _ _ (IsPermutation-middle news r rows)) (IsPermutation-trans _ _ _
        (IsPermutation-append_right news _ _ (put_row_permutes r rows e)) (more h))

pub put_all_shaped : (news rows : List SqlRow) → IsShaped shape.Table rows → Ints news → IsShaped shape.Table (put_all rows news)
put_all_shaped [] rows shaped ints_are = shaped
put_all_shaped (r ∷ news) rows shaped ints_are =
    put_all_shaped news (put_row r rows) (IsTable-put_row r rows shaped.0, all-put_row _ r rows ints_are.0 shaped.1) ints_are.1

pub without_all_shaped : (gone : List ℤ) (rows : List SqlRow) → IsShaped shape.Table rows → IsShaped shape.Table (without_all rows gone)
without_all_shaped [] rows shaped = shaped
without_all_shaped (k ∷ gone) rows shaped =
    without_all_shaped gone (without_rowid k rows) (
      ascending-filter _ (λ r. not (has_rowid k r)) rows shaped.0,
      all-filter _ (λ r. not
          (has_rowid k r)) rows shaped.1,
    )

-- ---- keys that repeat

less_apart : (o : Ordering) → o ≡ Less → is_eq o ≡ false
less_apart Less e = refl
less_apart Equal e = absurd cc
less_apart Greater e = absurd cc

above_apart : (r : SqlRow) (es : List SqlRow) → IsTrue (is_int (rowid r))
    → AllByRecursion (λ e. value_cmp (rowid r) (rowid e) ≡ Less) es → Ints es → list_any (is_same (key_value r)) (map key_value es) ≡ false
above_apart r [] h up ints_are = refl
above_apart r (e ∷ es) h up ints_are = rw (
  less_apart (int_cmp (key_of r) (key_of e)) (sym (by_number (rowid r) (rowid e) h ints_are.0)
      ∙ up.0),
  above_apart r es h up.1 ints_are.1,
)

pub no_repeats : (es : List SqlRow) → IsTable es → Ints es → repeats (map key_value es) ≡ false
no_repeats [] up ints_are = refl
no_repeats (r ∷ es) up ints_are = rw (above_apart r es ints_are.0 up.0 ints_are.1, no_repeats es up.1 ints_are.1)

reversed_eq : (o : Ordering) → is_eq (ordering_reverse o) ≡ is_eq o
reversed_eq Less = refl
reversed_eq Equal = refl
reversed_eq Greater = refl

taken_here : (e r : SqlRow) → IsTrue (is_int (rowid e)) → IsTrue (is_int (rowid r))
    → is_eq (value_cmp (rowid e) (rowid r)) ≡ is_same (key_value r) (key_value e)
taken_here e r h k = ap is_eq (by_number (rowid e) (rowid r) h k ∙ int_cmp_total.antisymm (key_of e) (key_of r))
    ∙ reversed_eq (int_cmp (key_of r) (key_of e))

-- a test of rows that sees their keys alone
module _ (p : SqlRow → Bool) (sees : (e r : SqlRow) → is_same (key_value r) (key_value e) ≡ true → p r ≡ true → p e ≡ true) where
  -- the key of a row that passes is taken by one that passes
  taken_among : (rows : List SqlRow) (r : SqlRow) → Ints rows → IsTrue (is_int (rowid r)) → p r ≡ true
      → is_taken rows r ≡ list_any (is_same (key_value r)) (map key_value (filter p rows))
  taken_among [] r ints_are h at = refl
  taken_among (e ∷ rows) r ints_are h at = go (is_same (key_value r) (key_value e)) (p e) refl refl (taken_among rows r ints_are.1 h at)
    where
      go : (b c : Bool) → is_same (key_value r) (key_value e) ≡ b → p e ≡ c
          → is_taken rows r ≡ list_any (is_same (key_value r)) (map key_value (filter p rows))
          → is_taken (e ∷ rows) r ≡ list_any (is_same (key_value r)) (map key_value (cond c (e ∷ filter p rows) (filter p rows)))
      go b true s t more = ap₂ ◌||◌ (taken_here e r ints_are.0 h) more
      go true false s t more = absurd (let u = sees e r s at in cc)
      go false false s t more = ap (λ x. x || is_taken rows r) (taken_here e r ints_are.0 h ∙ s) ∙ more

  -- a key of the new rows is taken where a key is there twice among them and the rows that pass
  pub fresh_is : (news rows : List SqlRow) → IsTable rows → Ints rows → Ints news → AllByRecursion (λ r. p r ≡ true) news
      → not (are_fresh rows news) ≡ repeats (map key_value (news ++ filter p rows))
  fresh_is [] rows up ints_are new_ints at = sym (no_repeats (filter p rows) (ascending-filter _ p rows up) (all-filter _ p rows ints_are))
  fresh_is (r ∷ news) rows up ints_are new_ints at =
      go (is_taken rows r) refl (fresh_is news (put_row r rows) (IsTable-put_row r rows up)
      (all-put_row _ r rows new_ints.0 ints_are) new_ints.1 at.1)
    where
      kept : List SqlRow
      kept = filter p rows

      among : is_taken rows r ≡ list_any (is_same (key_value r)) (map key_value kept)
      among = taken_among rows r ints_are new_ints.0 at.0

      go : (b : Bool) → is_taken rows r ≡ b → not (are_fresh (put_row r rows) news) ≡ repeats (map key_value (news ++ filter p
          (put_row r rows)))
          → not (not b && are_fresh (put_row r rows) news) ≡ repeats (map key_value (r ∷ (news ++ kept)))
      go true e more =
          let found : list_any (is_same (key_value r)) (map key_value (news ++ kept)) ≡ true =
          ap (list_any (is_same (key_value r))) (map-append key_value news kept)
          ∙ list_any-append (is_same (key_value r)) (map key_value news) (map key_value kept)
          ∙ or_right (list_any (is_same (key_value r)) (map key_value news)) _ (sym among ∙ e) in
          sym (or_left _ (repeats (map key_value (news ++ kept))) found)
      go false e more =
          let next : IsPermutation (r ∷ kept) (filter p (put_row r rows)) =
          subst (λ b. IsPermutation (cond b (r ∷ kept) kept) (filter p (put_row r rows))) at.0 (IsPermutation-filter p (r ∷ rows)
          (put_row r rows) (put_row_permutes r rows e)) in
          let moved : IsPermutation (news ++ filter p (put_row r rows)) (r ∷ (news ++ kept)) =
          IsPermutation-trans _ _ _ (IsPermutation-append_right news _ _ (IsPermutation-sym _ _ next)) (IsPermutation-middle news r kept) in
          more ∙ repeats_alike _ _ (IsPermutation-map key_value _ _ moved)
