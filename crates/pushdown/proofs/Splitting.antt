-- Conditions in two parts.
use Rattle.std.proofs.Common.{◌≡◌, ℕ, suc, ◌+◌, Bool, true, false, ◌&&◌, List, [], ◌∷◌, ◌++◌, map, length, Option, Some, None, refl, sym, ap, ◌∙◌, arith}
use Rattle.std.specs.Option.{is_some}
use Rattle.med_value.specs.Prelude.{Datum, Tuple, cell, compares_true}
use Rattle.tri_expr.specs.Prelude.{Tree, bare}
use Rattle.fdw_api.specs.Scan.{RestrictionForm, meets, meets_all, meets_exact, pick}
use Rattle.fdw_api.specs.declared.scan.Agree.{Agree}
use Rattle.fdw_api.specs.declared.scan.Agree.TheVariants.{Ignored, Hint, Exact}
use Rattle.pushdown.specs.Tests.{TestOf, with_literal, with_earlier, asks_null, passes, offered_test}
use Rattle.pushdown.specs.Offers.{form_by, place_by, next_by, tests_of, forms_from, places_of, again, again_by, is_true, all_true}
use Rattle.pushdown.proofs.Deciding.{Bares, tests_decide}
use Rattle.pushdown.proofs.Found.{and_first, and_second, and_both}

-- the parameters from a number on are the cells at these places
abbrev Reads : Tuple → ℕ → List ℕ → Tuple → Type 0
Reads params k places x = (j : ℕ) → cell params (k + j) ≡ cell (pick places x) j

form_met : (k : ℕ) (t : TestOf) (params x r : Tuple) (places : List ℕ) → Reads params k (place_by t places) x → meets params r (form_by k t) ≡ passes t x r
form_met k (with_literal c op v) params x r places h = refl
form_met k (with_earlier c op place) params x r places h = ap (λ (w : Datum). compares_true op (cell r c) w) (ap (cell params) at ∙ h 0)
  where
    at : k ≡ k + 0
    at = omega arith
form_met k (asks_null c true) params x r places h = refl
form_met k (asks_null c false) params x r places h = refl

reads_on : (k : ℕ) (t : TestOf) (params x : Tuple) (places : List ℕ) → Reads params k (place_by t places) x → Reads params (next_by t k) places x
reads_on k (with_literal c op v) params x places h j = h j
reads_on k (with_earlier c op place) params x places h j = ap (cell params) at ∙ h (suc j)
  where
    at : suc k + j ≡ k + suc j
    at = omega arith
reads_on k (asks_null c negative) params x places h j = h j

exact_none : (fs : List RestrictionForm) (params r : Tuple) → meets_exact fs [] params r ≡ true
exact_none [] params r = refl
exact_none (f ∷ fs) params r = refl

module _ (law : Bares) (base width : ℕ) (x r : Tuple) (lx : length x ≡ base) (lr : length r ≡ width) (params : Tuple) where
  -- where all conditions are true, so are all restrictions
  met_step : (t : Tree) (ts : List Tree) (k : ℕ) (o : Option TestOf) → offered_test base width (bare t) ≡ o → all_true (t ∷ ts) (x ++ r) ≡ true
      → ((j : ℕ) → Reads params j (places_of (tests_of base width ts)) x → meets_all (forms_from j (tests_of base width ts)) params r ≡ true)
      → Reads params k (places_of (o ∷ tests_of base width ts)) x → meets_all (forms_from k (o ∷ tests_of base width ts)) params r ≡ true
  met_step t ts k None q e ih h = ih k h
  met_step t ts k (Some o) q e ih h =
      and_both (meets params r (form_by k o)) (meets_all (forms_from (next_by o k) (tests_of base width ts)) params r)
      (form_met k o params x r (places_of (tests_of base width ts)) h ∙ sym (tests_decide law base width t o q x r lx lr) ∙ and_first (is_true t (x ++ r)) (all_true ts (x ++ r)) e)
      (ih (next_by o k) (reads_on k o params x (places_of (tests_of base width ts)) h))

  met : (ts : List Tree) (k : ℕ) → Reads params k (places_of (tests_of base width ts)) x → all_true ts (x ++ r) ≡ true → meets_all (forms_from k (tests_of base width ts)) params r ≡ true
  met [] k h e = refl
  met (t ∷ ts) k h e = met_step t ts k (offered_test base width (bare t)) refl e (λ j i. met ts j i (and_second (is_true t (x ++ r)) (all_true ts (x ++ r)) e)) h

  pub not_met : (ts : List Tree) (k : ℕ) → Reads params k (places_of (tests_of base width ts)) x → meets_all (forms_from k (tests_of base width ts)) params r ≡ false → all_true ts (x ++ r) ≡ false
  not_met ts k h e = split (all_true ts (x ++ r)) refl
    where
      split : (b : Bool) → all_true ts (x ++ r) ≡ b → all_true ts (x ++ r) ≡ false
      split false q = q
      split true q = let m = met ts k h q in absurd (apart _ m e)
        where
          apart : (b : Bool) → b ≡ true → b ≡ false → ⊥
          apart b p q = cc

  -- where all that were answered Exact are true, what is checked again decides
  abbrev Decided : List Tree → ℕ → List (Option TestOf) → List Agree → Type 0
  Decided ts k os answers = Reads params k (places_of os) x → meets_exact (forms_from k os) answers params r ≡ true → all_true (again os answers ts) (x ++ r) ≡ all_true ts (x ++ r)

  exact_step : (t : Tree) (ts : List Tree) (k : ℕ) (o : Option TestOf) (answers : List Agree) → offered_test base width (bare t) ≡ o
      → ((j : ℕ) (more : List Agree) → Decided ts j (tests_of base width ts) more) → Decided (t ∷ ts) k (o ∷ tests_of base width ts) answers
  exact_step t ts k None answers q ih h e = ap (λ (b : Bool). is_true t (x ++ r) && b) (ih k answers h e)
  exact_step t ts k (Some o) [] q ih h e = ap (λ (b : Bool). is_true t (x ++ r) && b) (ih (next_by o k) [] (reads_on k o params x (places_of (tests_of base width ts)) h) (exact_none (forms_from (next_by o k) (tests_of base width ts)) params r))
  exact_step t ts k (Some o) (Exact ∷ answers) q ih h e =
      ih (next_by o k) answers (reads_on k o params x (places_of (tests_of base width ts)) h) (and_second (meets params r (form_by k o)) (meets_exact (forms_from (next_by o k) (tests_of base width ts)) answers params r) e)
      ∙ ap (λ (b : Bool). b && all_true ts (x ++ r)) (sym (tests_decide law base width t o q x r lx lr ∙ sym (form_met k o params x r (places_of (tests_of base width ts)) h) ∙ and_first (meets params r (form_by k o)) (meets_exact (forms_from (next_by o k) (tests_of base width ts)) answers params r) e))
  exact_step t ts k (Some o) (Ignored ∷ answers) q ih h e = ap (λ (b : Bool). is_true t (x ++ r) && b) (ih (next_by o k) answers (reads_on k o params x (places_of (tests_of base width ts)) h) e)
  exact_step t ts k (Some o) (Hint ∷ answers) q ih h e = ap (λ (b : Bool). is_true t (x ++ r) && b) (ih (next_by o k) answers (reads_on k o params x (places_of (tests_of base width ts)) h) e)

  pub exact : (ts : List Tree) (k : ℕ) (answers : List Agree) → Decided ts k (tests_of base width ts) answers
  exact [] k answers h e = refl
  exact (t ∷ ts) k answers h e = exact_step t ts k (offered_test base width (bare t)) answers refl (λ j more. exact ts j more) h e

pub split : Bares → (base width : ℕ) (ts : List Tree) (answers : List Agree) (x r : Tuple) → length x ≡ base → length r ≡ width
    → (meets_all (forms_from 0 (tests_of base width ts)) (pick (places_of (tests_of base width ts)) x) r ≡ false → all_true ts (x ++ r) ≡ false)
    × (meets_exact (forms_from 0 (tests_of base width ts)) answers (pick (places_of (tests_of base width ts)) x) r ≡ true → all_true (again (tests_of base width ts) answers ts) (x ++ r) ≡ all_true ts (x ++ r))
split law base width ts answers x r lx lr = (
  not_met law base width x r lx lr (pick (places_of (tests_of base width ts)) x) ts 0 reads,
  exact law base width x r lx lr (pick (places_of (tests_of base width ts)) x) ts 0 answers reads,
)
  where
    reads : (j : ℕ) → cell (pick (places_of (tests_of base width ts)) x) (0 + j) ≡ cell (pick (places_of (tests_of base width ts)) x) j
    reads j = ap (cell (pick (places_of (tests_of base width ts)) x)) at
      where
        at : 0 + j ≡ j
        at = omega arith

-- ---- by the marks

nothing_offered : (answers : List Agree) (ts : List Tree) → again_by [] answers ts ≡ ts
nothing_offered answers [] = refl
nothing_offered answers (t ∷ ts) = ap (λ (l : List Tree). t ∷ l) (nothing_offered answers ts)

pub marks : (os : List (Option TestOf)) (answers : List Agree) (ts : List Tree) → again_by (map is_some os) answers ts ≡ again os answers ts
marks [] answers ts = nothing_offered answers ts
marks (o ∷ os) answers [] = refl
marks (None ∷ os) answers (t ∷ ts) = ap (λ (l : List Tree). t ∷ l) (marks os answers ts)
marks (Some o ∷ os) [] (t ∷ ts) = ap (λ (l : List Tree). t ∷ l) (marks os [] ts)
marks (Some o ∷ os) (Exact ∷ answers) (t ∷ ts) = marks os answers ts
marks (Some o ∷ os) (Ignored ∷ answers) (t ∷ ts) = ap (λ (l : List Tree). t ∷ l) (marks os answers ts)
marks (Some o ∷ os) (Hint ∷ answers) (t ∷ ts) = ap (λ (l : List Tree). t ∷ l) (marks os answers ts)
