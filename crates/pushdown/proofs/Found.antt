-- Rows found in an index.
use Rattle.std.proofs.Common.{◌≡◌, ℕ, zero, suc, ◌<◌, Bool, true, false, not, ◌&&◌, cond, List, [], ◌∷◌, ◌++◌, map, length, get_or, slice_index_or, All, Contains, IsPermutation, IsSorted, refl, sym, ap, ◌∙◌, subst, arith}
use Rattle.std.specs.List.{filter}
use Rattle.std.proofs.lemmas.List.Sorted.{IsPermutation-trans, IsPermutation-append_left, IsPermutation-filter_both}
use Rattle.med_value.specs.Prelude.{Tuple, cell, compares_true}
use Rattle.med_value.specs.declared.order.Comparison.TheVariants as comparisons
use Rattle.fdw_api.specs.Scan.{RestrictionForm, KeyForm, row_cmp, first_of, Spec, TableRow, IsComing, given_row, meets, meets_all, meets_exact}
use Rattle.fdw_api.specs.declared.scan.Agree.{Agree}
use Rattle.fdw_api.specs.declared.scan.Agree.TheVariants.{Ignored, Hint, Exact}
use Rattle.pushdown.specs.Joins.{Each}
use Rattle.pushdown.proofs.Shuffles.{filter_shuffled}
use Rattle.pushdown.specs.Index.{equal_rows, equality, passing}

to_all : {X : Type 0} (P : X → Type 0) (xs : List X) → Each P xs → All P xs
to_all P [] h = λ k d lt. absurd (omega (arith, lt))
to_all P (x ∷ xs) h = λ k d lt. at k d lt (to_all P xs h.1)
  where
    at : (k : ℕ) (d : _) → k < length (x ∷ xs) → All P xs → P (get_or (x ∷ xs) k d)
    at zero d lt i = h.0
    at (suc k) d lt i = i k d (omega (arith, lt))

each_passing : {X : Type 0} (p q : X → Bool) → ((x : X) → p x ≡ true → q x ≡ true) → (xs : List X) → Each (λ x. q x ≡ true) (filter p xs)
each_passing p q h [] = tt
each_passing p q h (x ∷ xs) = step (p x) refl (each_passing p q h xs)
  where
    step : (b : Bool) → p x ≡ b → Each (λ x. q x ≡ true) (filter p xs) → Each (λ x. q x ≡ true) (cond b (x ∷ filter p xs) (filter p xs))
    step true e k = (h x e, k)
    step false e k = k

each_failing : {X : Type 0} (p q : X → Bool) → ((x : X) → p x ≡ false → q x ≡ false) → (xs : List X) → Each (λ x. q x ≡ false) (filter (λ x. not (p x)) xs)
each_failing p q h [] = tt
each_failing p q h (x ∷ xs) = step (p x) refl (each_failing p q h xs)
  where
    step : (b : Bool) → p x ≡ b → Each (λ x. q x ≡ false) (filter (λ x. not (p x)) xs) → Each (λ x. q x ≡ false) (cond (not b) (x ∷ filter (λ x. not (p x)) xs) (filter (λ x. not (p x)) xs))
    step true e k = k
    step false e k = (h x e, k)

filter_and : {X : Type 0} (p q : X → Bool) (xs : List X) → filter p (filter q xs) ≡ filter (λ x. q x && p x) xs
filter_and p q [] = refl
filter_and p q (x ∷ xs) = step (q x) (filter_and p q xs)
  where
    step : (b : Bool) → filter p (filter q xs) ≡ filter (λ x. q x && p x) xs → filter p (cond b (x ∷ filter q xs) (filter q xs)) ≡ cond (b && p x) (x ∷ filter (λ x. q x && p x) xs) (filter (λ x. q x && p x) xs)
    step true e = ap (λ (l : List _). cond (p x) (x ∷ l) l) e
    step false e = e

pub and_first : (a b : Bool) → (a && b) ≡ true → a ≡ true
and_first true b e = refl
and_first false b e = absurd (no b e)
  where
    no : (b : Bool) → (false && b) ≡ true → ⊥
    no b e = cc

pub and_second : (a b : Bool) → (a && b) ≡ true → b ≡ true
and_second true b e = e
and_second false b e = absurd (no b e)
  where
    no : (b : Bool) → (false && b) ≡ true → ⊥
    no b e = cc

pub and_both : (a b : Bool) → a ≡ true → b ≡ true → (a && b) ≡ true
and_both true true e f = refl
and_both true false e f = absurd cc
and_both false b e f = absurd cc

-- all restrictions are true, so each is, and those that were answered Exact
one_met : (f : RestrictionForm) (offered : List RestrictionForm) (params r : Tuple) → Contains offered f → meets_all offered params r ≡ true → meets params r f ≡ true
one_met f [] params r h e = let lt = h.1 in absurd (omega (arith, lt))
one_met f (g ∷ gs) params r h e = at (λ c. one_met f gs params r c (and_second (meets params r g) (meets_all gs params r) e)) h.0 h.1 h.2
  where
    at : (Contains gs f → meets params r f ≡ true) → (k : ℕ) → k < length (g ∷ gs) → slice_index_or (g ∷ gs) k f ≡ f → meets params r f ≡ true
    at further zero lt i = ap (meets params r) (sym i) ∙ and_first (meets params r g) (meets_all gs params r) e
    at further (suc k) lt i = further (k, omega (arith, lt), i)

pub exact_met : (offered : List RestrictionForm) (answers : List Agree) (params r : Tuple) → meets_all offered params r ≡ true → meets_exact offered answers params r ≡ true
exact_met [] answers params r e = refl
exact_met (f ∷ fs) [] params r e = refl
exact_met (f ∷ fs) (Exact ∷ answers) params r e = and_both (meets params r f) (meets_exact fs answers params r) (and_first (meets params r f) (meets_all fs params r) e) (exact_met fs answers params r (and_second (meets params r f) (meets_all fs params r) e))
exact_met (f ∷ fs) (Ignored ∷ answers) params r e = exact_met fs answers params r (and_second (meets params r f) (meets_all fs params r) e)
exact_met (f ∷ fs) (Hint ∷ answers) params r e = exact_met fs answers params r (and_second (meets params r f) (meets_all fs params r) e)

module _ (rows : List TableRow) (spec : Spec) (params : Tuple) (column k : ℕ) (found : List TableRow) (has : Contains spec.offered (equality column k)) (same : IsPermutation (equal_rows column (cell params k) rows) found) where
  abbrev equals : TableRow → Bool
  equals r = compares_true comparisons.Equal (cell r.cells column) (cell params k)

  abbrev exacts : TableRow → Bool
  exacts r = meets_exact spec.offered spec.answers params r.cells

  abbrev picks : TableRow → Bool
  picks r = equals r && exacts r

  parts : IsPermutation rows (filter exacts found ++ filter (λ r. not (picks r)) rows)
  parts =
      IsPermutation-trans rows (filter picks rows ++ filter (λ r. not (picks r)) rows) (filter exacts found ++ filter (λ r. not (picks r)) rows)
      (IsPermutation-filter_both picks (λ r. not (picks r)) (λ r. refl) rows)
      (IsPermutation-append_left (filter (λ r. not (picks r)) rows) (filter picks rows) (filter exacts found)
      (subst (λ (l : List TableRow). IsPermutation l (filter exacts found)) (filter_and exacts equals rows) (filter_shuffled exacts (filter equals rows) found same)))

  not_picked : (r : TableRow) → picks r ≡ false → meets_all spec.offered params r.cells ≡ false
  not_picked r e = split (meets_all spec.offered params r.cells) refl
    where
      split : (b : Bool) → meets_all spec.offered params r.cells ≡ b → meets_all spec.offered params r.cells ≡ false
      split false q = q
      split true q = absurd (apart (picks r) (and_both (equals r) (exacts r) (one_met (equality column k) spec.offered params r.cells has q) (exact_met spec.offered spec.answers params r.cells q)) e)
        where
          apart : (b : Bool) → b ≡ true → b ≡ false → ⊥
          apart b p q = cc

  pub may_come : IsSorted (row_cmp spec.order) (passing spec params found) → IsComing rows spec params (map (given_row spec) (first_of spec.limit (passing spec params found)))
  may_come sorted = record {
    taken = filter exacts found;
    left_out = filter (λ r. not (picks r)) rows;
    parts = parts;
    failing = to_all (λ r. meets_all spec.offered params r.cells ≡ false) (filter (λ r. not (picks r)) rows) (each_failing picks (λ r. meets_all spec.offered params r.cells) not_picked rows);
    exact = to_all (λ r. meets_exact spec.offered spec.answers params r.cells ≡ true) (filter exacts found) (each_passing exacts exacts (λ r e. e) found);
    sorted = sorted;
    is = refl;
  }

  pub may_come_unordered : spec.order ≡ [] → IsComing rows spec params (map (given_row spec) (first_of spec.limit (passing spec params found)))
  may_come_unordered none = may_come (subst (λ (o : List KeyForm). IsSorted (row_cmp o) (passing spec params found)) (sym none) (λ k d low high. refl))
