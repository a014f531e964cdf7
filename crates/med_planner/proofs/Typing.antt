-- The parameters of the scans of a bound core are of their columns' types.
use Rattle.std.proofs.Common.{◌≡◌, ℕ, zero, suc, ◌+◌, ◌-◌, ◌<◌, ◌≤◌, Bool, true, false, nat_lt, nat_le, cond, List, [], ◌∷◌, ◌++◌, length, get_or, Option, Some, None, slice_get, refl, sym, ap, ◌∙◌, arith, leb-true}
use Rattle.std.proofs.lemmas.List.{length-map, get_or-map}
use Rattle.med_value.specs.Datum.{NoValue, Tuple, cell}
use Rattle.med_value.specs.declared.value.ColType.{ColType}
use Rattle.med_value.specs.declared.order.Comparison.{Comparison}
use Rattle.med_value.specs.declared.operators.Status.TheVariants as statuses
use Rattle.tri_expr.specs.Prelude.{Tree, Trees, column, parameter, literal, compare, compute, negate, all_of, some_of, opposite, asks, between, within, matches, parenthesised, count_rows, aggregate, none, part, bare, bare_all}
use Rattle.tri_expr.proofs.Forms.{two, three}
use Rattle.fdw_api.specs.Scan.{pick, has_kind, kind_is, test_fits, params_fit}
use Rattle.pushdown.specs.Joins.{Each}
use Rattle.pushdown.specs.Tests.{TestOf, with_literal, with_earlier, asks_null, mirrored, in_entry, either, where_in, with_other, offered_test}
use Rattle.pushdown.specs.Offers.{form_by, place_by, next_by, tests_of, forms_from, places_of}
use Rattle.scan_loops.specs.Levels.{has_kinds}
use Rattle.med_binder.specs.Alike.{AreAlike, ComparesAlike}
use Rattle.med_planner.specs.Places.{moved, all_moved}
use Rattle.med_planner.proofs.Pulling.{and_left, and_right, and_whole, below, below_test}

-- ---- elements

pub at_front : {X : Type 0} (xs ys : List X) (i : ℕ) → i < length xs → slice_get (xs ++ ys) i ≡ slice_get xs i
at_front [] ys i h = absurd (omega (arith, h))
at_front (x ∷ xs) ys zero h = refl
at_front (x ∷ xs) ys (suc i) h = at_front xs ys i (omega (arith, h))

pub at_back : {X : Type 0} (xs ys : List X) (n i : ℕ) → length xs ≡ n → n ≤ i → slice_get (xs ++ ys) i ≡ slice_get ys (i - n)
at_back [] ys zero i e h = let k : i ≡ i - 0 = omega arith in ap (slice_get ys) k
at_back [] ys (suc n) i e h = absurd (omega (arith, e))
at_back (x ∷ xs) ys zero i e h = absurd (omega (arith, e))
at_back (x ∷ xs) ys (suc n) zero e h = absurd (omega (arith, h))
at_back (x ∷ xs) ys (suc n) (suc i) e h = let k : i - n ≡ suc i - suc n = omega arith in at_back xs ys n i (omega (arith, e)) (omega (arith, h)) ∙ ap (slice_get ys) k

-- ---- the test of a condition

-- its parameter, if it has one, is a column of the type of the column that it tests
abbrev pub FitsTest : (kinds own : List ColType) → TestOf → Type 0
FitsTest kinds own (with_literal c op v) = Unit {0}
FitsTest kinds own (with_earlier c op place) = (kind : ColType) × (slice_get own c ≡ Some kind) × (slice_get kinds place ≡ Some kind)
FitsTest kinds own (asks_null c negative) = Unit {0}

abbrev pub FitsOffered : (kinds own : List ColType) → Option TestOf → Type 0
FitsOffered kinds own None = Unit {0}
FitsOffered kinds own (Some t) = FitsTest kinds own t

module _ (kinds own rest : List ColType) (base width : ℕ) (long : length kinds ≡ base) (wide : length own ≡ width) where
  abbrev Fits : Option TestOf → Type 0
  Fits = FitsOffered kinds own

  abbrev all_kinds : List ColType
  all_kinds = kinds ++ (own ++ rest)

  fits_if : (b : Bool) (o : Option TestOf) → (b ≡ true → Fits o) → Fits (cond b o None)
  fits_if true o h = h refl
  fits_if false o h = tt

  fits_either : (o p : Option TestOf) → Fits o → Fits p → Fits (either o p)
  fits_either None p h i = i
  fits_either (Some t) p h i = h

  low : (a : ℕ) → in_entry base width a ≡ true → base ≤ a
  low a e = leb-true base a (and_left (nat_le base a) (nat_lt a (base + width)) e)

  high : (a : ℕ) → in_entry base width a ≡ true → a < base + width
  high a e = below a (base + width) (and_right (nat_le base a) (nat_lt a (base + width)) e)

  fits_other : (a b : ℕ) (op : Comparison) → AreAlike all_kinds a b → Fits (with_other base width a op b)
  fits_other a b op alike =
      fits_if (nat_lt b base) (where_in base width a (with_earlier (a - base) op b)) (λ earlier.
      fits_if (in_entry base width a) (Some (with_earlier (a - base) op b)) (λ mine.
      let lo = low a mine in
      let hi = high a mine in
      let lt = below b base earlier in (
        alike.kind,
        sym (at_front own rest (a - base) (omega (arith, lo, hi, wide))) ∙ sym (at_back kinds (own ++ rest) base a long lo) ∙ alike.left,
        sym (at_front kinds (own ++ rest) b (omega (arith, lt, long))) ∙ alike.right,
      )))

  swapped : (a b : ℕ) → AreAlike all_kinds a b → AreAlike all_kinds b a
  swapped a b alike = record { kind = alike.kind; left = alike.right; right = alike.left }

  -- a condition without its parentheses
  fits_bare : (u : Tree) → ((op : Comparison) (a b : ℕ) → u ≡ compare op (column a) (column b) → AreAlike all_kinds a b) → Fits (offered_test base width u)
  fits_bare (compare op (column a) (literal v)) h = fits_if (in_entry base width a) (Some (with_literal (a - base) op v)) (λ mine. tt)
  fits_bare (compare op (literal v) (column a)) h = fits_if (in_entry base width a) (Some (with_literal (a - base) (mirrored op) v)) (λ mine. tt)
  fits_bare (compare op (column a) (column b)) h =
      let alike = h op a b refl in
      fits_either (with_other base width a op b) (with_other base width b (mirrored op) a) (fits_other a b op alike) (fits_other b a (mirrored op) (swapped a b alike))
  fits_bare (asks statuses.Null negative (column a)) h = fits_if (in_entry base width a) (Some (asks_null (a - base) negative)) (λ mine. tt)
  fits_bare u h = tt

  pub all_fit : (ts : List Tree) → Each (ComparesAlike all_kinds) ts → Each Fits (tests_of base width ts)
  all_fit [] h = tt
  all_fit (t ∷ ts) h = (fits_bare (bare t) h.0, all_fit ts h.1)

-- ---- parameters

-- the parameters from a number on are the cells at these places
abbrev pub Reads : Tuple → ℕ → List ℕ → Tuple → Type 0
Reads params k places x = (j d : ℕ) → j < length places → (k + j < length params) × (cell params (k + j) ≡ cell x (get_or places j d))

cell_kind : (kinds : List ColType) (x : Tuple) (at : ℕ) (kind : ColType) → has_kinds kinds x ≡ true → slice_get kinds at ≡ Some kind → has_kind kind (cell x at) ≡ true
cell_kind [] x at kind h e = absurd cc
cell_kind (k ∷ kinds) [] at kind h e = absurd cc
cell_kind (k ∷ kinds) (v ∷ x) zero kind h e = let same : k ≡ kind = cc in ap (λ (q : ColType). has_kind q v) (sym same) ∙ and_left (has_kind k v) (has_kinds kinds x) h
cell_kind (k ∷ kinds) (v ∷ x) (suc at) kind h e = cell_kind kinds x at kind (and_right (has_kind k v) (has_kinds kinds x) h) e

module _ (kinds own : List ColType) (params x : Tuple) (typed : has_kinds kinds x ≡ true) where
  one_fits : (k : ℕ) (t : TestOf) (places : List ℕ) → FitsTest kinds own t → Reads params k (place_by t places) x → test_fits own params (form_by k t).column (form_by k t).test ≡ true
  one_fits k (with_literal c op v) places h r = refl
  one_fits k (with_earlier c op place) places h r =
      let e : k + 0 ≡ k = omega arith in
      let first = r 0 0 (omega arith) in
      let lt = first.0 in
      let same : cell params k ≡ cell x place = ap (cell params) (sym e) ∙ first.1 in
      and_whole (nat_lt k (length params)) (kind_is (slice_get own c) (cell params k)) (below_test k (length params) (omega (arith, lt)))
      (ap (λ (o : Option ColType). kind_is o (cell params k)) h.1 ∙ ap (has_kind h.0) same ∙ cell_kind kinds x place h.0 typed h.2)
  one_fits k (asks_null c true) places h r = refl
  one_fits k (asks_null c false) places h r = refl

  reads_on : (k : ℕ) (t : TestOf) (places : List ℕ) → Reads params k (place_by t places) x → Reads params (next_by t k) places x
  reads_on k (with_literal c op v) places r = r
  reads_on k (with_earlier c op place) places r = λ j d h.
      let e : k + suc j ≡ suc k + j = omega arith in
      let here = r (suc j) d (omega (arith, h)) in
      let lt = here.0 in
      (omega (arith, lt), ap (cell params) (sym e) ∙ here.1)
  reads_on k (asks_null c negative) places r = r

  fit_from : (os : List (Option TestOf)) (k : ℕ) → Each (FitsOffered kinds own) os → Reads params k (places_of os) x → params_fit own (forms_from k os) params ≡ true
  fit_from [] k h r = refl
  fit_from (None ∷ os) k h r = fit_from os k h.1 r
  fit_from (Some t ∷ os) k h r =
      and_whole (test_fits own params (form_by k t).column (form_by k t).test) (params_fit own (forms_from (next_by t k) os) params)
      (one_fits k t (places_of os) h.0 r) (fit_from os (next_by t k) h.1 (reads_on k t (places_of os) r))

reads_picked : (places : List ℕ) (x : Tuple) → Reads (pick places x) 0 places x
reads_picked places x j d h =
    let e : 0 + j ≡ j = omega arith in
    let long = length-map places (cell x) in
    (omega (arith, h, long), ap (cell (pick places x)) e ∙ get_or-map (cell x) places j d NoValue h)

-- what a scan is offered of conditions has parameters of its columns' types
pub offered_fit : (kinds own rest : List ColType) (base width : ℕ) (ts : List Tree) (x : Tuple) → length kinds ≡ base → length own ≡ width → Each (ComparesAlike (kinds ++ (own ++ rest))) ts → has_kinds kinds x ≡ true
    → params_fit own (forms_from 0 (tests_of base width ts)) (pick (places_of (tests_of base width ts)) x) ≡ true
offered_fit kinds own rest base width ts x long wide alike typed =
    let tests = tests_of base width ts in
    fit_from kinds own (pick (places_of tests) x) x typed tests 0 (all_fit kinds own rest base width long wide ts alike) (reads_picked (places_of tests) x)

-- ---- conditions whose columns stand further on

mutual
  bare_moved : (f : ℕ → ℕ) (t : Tree) → bare (moved f t) ≡ moved f (bare t)
  bare_moved f (column at) = refl
  bare_moved f (parameter at) = refl
  bare_moved f (literal v) = refl
  bare_moved f (compare op a b) = two (compare op) (bare_moved f a) (bare_moved f b)
  bare_moved f (compute op a b) = two (compute op) (bare_moved f a) (bare_moved f b)
  bare_moved f (negate a) = ap negate (bare_moved f a)
  bare_moved f (all_of ts) = ap all_of (all_bare_moved f ts)
  bare_moved f (some_of ts) = ap some_of (all_bare_moved f ts)
  bare_moved f (opposite a) = ap opposite (bare_moved f a)
  bare_moved f (asks t negative a) = ap (asks t negative) (bare_moved f a)
  bare_moved f (between negative x a b) = three (between negative) (bare_moved f x) (bare_moved f a) (bare_moved f b)
  bare_moved f (within negative x ts) = two (within negative) (bare_moved f x) (all_bare_moved f ts)
  bare_moved f (matches negative x pattern) = ap (λ (s : Tree). matches negative s pattern) (bare_moved f x)
  bare_moved f (parenthesised a) = bare_moved f a
  bare_moved f count_rows = refl
  bare_moved f (aggregate function a) = ap (aggregate function) (bare_moved f a)

  all_bare_moved : (f : ℕ → ℕ) (ts : Trees) → bare_all (all_moved f ts) ≡ all_moved f (bare_all ts)
  all_bare_moved f none = refl
  all_bare_moved f (part t ts) = two part (bare_moved f t) (all_bare_moved f ts)

pub record IsColumnOf (f : ℕ → ℕ) (u : Tree) (a : ℕ) : Type 0 where
  pub place : ℕ
  pub is : u ≡ column place
  pub at : a ≡ f place

moved_column : (f : ℕ → ℕ) (u : Tree) (a : ℕ) → moved f u ≡ column a → IsColumnOf f u a
moved_column f (column at) a e = record { place = at; is = refl; at = cc }
moved_column f (parameter at) a e = absurd cc
moved_column f (literal v) a e = absurd cc
moved_column f (compare op x y) a e = absurd cc
moved_column f (compute op x y) a e = absurd cc
moved_column f (negate x) a e = absurd cc
moved_column f (all_of ts) a e = absurd cc
moved_column f (some_of ts) a e = absurd cc
moved_column f (opposite x) a e = absurd cc
moved_column f (asks t negative x) a e = absurd cc
moved_column f (between negative x y z) a e = absurd cc
moved_column f (within negative x ts) a e = absurd cc
moved_column f (matches negative x pattern) a e = absurd cc
moved_column f (parenthesised x) a e = absurd cc
moved_column f count_rows a e = absurd cc
moved_column f (aggregate function x) a e = absurd cc

pub record ComparedOf (f : ℕ → ℕ) (u : Tree) (op : Comparison) (a b : ℕ) : Type 0 where
  pub left : ℕ
  pub right : ℕ
  pub is : u ≡ compare op (column left) (column right)
  pub left_at : a ≡ f left
  pub right_at : b ≡ f right

moved_compare : (f : ℕ → ℕ) (u : Tree) (op : Comparison) (a b : ℕ) → moved f u ≡ compare op (column a) (column b) → ComparedOf f u op a b
moved_compare f (compare q x y) op a b e =
    let same : q ≡ op = cc in
    let l = moved_column f x a cc in
    let r = moved_column f y b cc in
    record { left = l.place; right = r.place; is = ap (λ (p : Comparison). compare p x y) same ∙ two (compare op) l.is r.is; left_at = l.at; right_at = r.at }
moved_compare f (column at) op a b e = absurd cc
moved_compare f (parameter at) op a b e = absurd cc
moved_compare f (literal v) op a b e = absurd cc
moved_compare f (compute q x y) op a b e = absurd cc
moved_compare f (negate x) op a b e = absurd cc
moved_compare f (all_of ts) op a b e = absurd cc
moved_compare f (some_of ts) op a b e = absurd cc
moved_compare f (opposite x) op a b e = absurd cc
moved_compare f (asks t negative x) op a b e = absurd cc
moved_compare f (between negative x y z) op a b e = absurd cc
moved_compare f (within negative x ts) op a b e = absurd cc
moved_compare f (matches negative x pattern) op a b e = absurd cc
moved_compare f (parenthesised x) op a b e = absurd cc
moved_compare f count_rows op a b e = absurd cc
moved_compare f (aggregate function x) op a b e = absurd cc

pub moved_alike : (f : ℕ → ℕ) (here all : List ColType) → ((at : ℕ) (kind : ColType) → slice_get here at ≡ Some kind → slice_get all (f at) ≡ Some kind) → (t : Tree) → ComparesAlike here t → ComparesAlike all (moved f t)
moved_alike f here all lift t alike op a b e =
    let c = moved_compare f (bare t) op a b (sym (bare_moved f t) ∙ e) in
    let old = alike op c.left c.right c.is in
    record { kind = old.kind; left = ap (slice_get all) c.left_at ∙ lift c.left old.kind old.left; right = ap (slice_get all) c.right_at ∙ lift c.right old.kind old.right }
