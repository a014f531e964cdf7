-- The row of a table as its level sees it: as long, and with the same cells in the columns that are read.
use Rattle.std.proofs.Common.{◌≡◌, ◌≢◌, ℕ, zero, suc, ◌+◌, ◌-◌, ◌<◌, ◌≤◌, ◌⊎◌, inl, inr, Bool, true, false, ◌&&◌, ◌||◌, cond, eqb, nat_eq, nat_lt, nat_le, min, List, [], ◌∷◌, ◌++◌, length, Option, Some, None, refl, sym, ap, ◌∙◌, subst, arith, leb-true}
use Rattle.std.specs.List.{filter, list_any, range_with_len}
use Rattle.std.proofs.lemmas.Bool.Decides.{eqb_tells}
use Rattle.med_value.specs.Datum.{Tuple, cell}
use Rattle.med_value.specs.declared.order.Comparison.{Comparison}
use Rattle.med_value.specs.declared.operators.Status.TheVariants as statuses
use Rattle.tri_expr.specs.Prelude.{Tree, Trees, column, parameter, literal, compare, compute, negate, all_of, some_of, opposite, asks, between, within, matches, parenthesised, count_rows, aggregate, none, part, bare, bare_all}
use Rattle.tri_expr.proofs.Forms.{two}
use Rattle.fdw_api.specs.Prelude.{RestrictionForm, pick, shown_cells, checks, meets, meets_all, meets_exact, spec2_of}
use Rattle.fdw_api.specs.declared.scan.Agree.{Agree}
use Rattle.fdw_api.specs.declared.scan.Agree.TheVariants.{Ignored, Hint, Exact}
use Rattle.pushdown.specs.Joins.{Each}
use Rattle.pushdown.specs.Columns.{columns_in, columns_in_all}
use Rattle.pushdown.specs.Tests.{TestOf, with_literal, with_earlier, asks_null, mirrored, in_entry, either, where_in, with_other, offered_test}
use Rattle.pushdown.specs.Offers.{form_by, next_by, tests_of, forms_from}
use Rattle.scan_loops.specs.Levels.{cell_for, spread_from, spread, seen}
use Rattle.scan_loops.proofs.SpreadLemmas.{spread_long}
use Rattle.scan_loops.specs.declared.levels.LoopLevel.{LoopLevel}
use Rattle.med_planner.specs.Places.{further}
use Rattle.med_planner.specs.Offered.{wanted_of}
use Rattle.med_planner.proofs.Pulling.{and_left, and_right, below}
use Rattle.med_planner.proofs.Planning.{most}

-- ---- one of some columns

-- a column is one of those that are read
abbrev pub Stands : List ℕ → ℕ → Type 0
Stands read at = list_any (nat_eq at) read ≡ true

abbrev pub AllStand : (read columns : List ℕ) → Type 0
AllStand read columns = Each (Stands read) columns

-- conditions read these columns alone
abbrev pub AllRead : List ℕ → List Tree → Type 0
AllRead read ts = Each (λ t. AllStand read (columns_in t)) ts

or_first : (a b : Bool) → a ≡ true → (a || b) ≡ true
or_first true b e = refl
or_first false b e = absurd cc

or_second : (a b : Bool) → b ≡ true → (a || b) ≡ true
or_second true b e = refl
or_second false b e = e

same_number : (at : ℕ) → eqb at at ≡ true
same_number at = split (eqb_tells at at)
  where
    split : ((eqb at at ≡ true) × (at ≡ at)) ⊎ ((eqb at at ≡ false) × (at ≢ at)) → eqb at at ≡ true
    split (inl s) = s.0
    split (inr s) = absurd (s.1 refl)

-- what is so of each column that stands there is so of each of them, and the other way round
pub each_stands : (P : ℕ → Type 0) (read : List ℕ) → ((at : ℕ) → Stands read at → P at) → Each P read
each_stands P [] f = tt
each_stands P (c ∷ read) f =
    (f c (or_first (nat_eq c c) (list_any (nat_eq c) read) (same_number c)), each_stands P read (λ at h. f at (or_second (nat_eq at c) (list_any (nat_eq at) read) h)))

pub at_stands : (P : ℕ → Type 0) (read : List ℕ) (at : ℕ) → Each P read → Stands read at → P at
at_stands P [] at e h = absurd cc
at_stands P (c ∷ read) at e h = split (at_stands P read at e.1) (eqb_tells at c)
  where
    split : (Stands read at → P at) → ((eqb at c ≡ true) × (at ≡ c)) ⊎ ((eqb at c ≡ false) × (at ≢ c)) → P at
    split later (inl s) = subst P (sym s.1) e.0
    split later (inr s) = later (ap (λ (b : Bool). b || list_any (nat_eq at) read) (sym s.0) ∙ h)

-- ---- a row that is spread

pub grows : (k c : ℕ) → k ≤ c → (k ≢ c) → k + 1 ≤ c
grows zero zero le ne = absurd (ne refl)
grows zero (suc c) le ne = omega arith
grows (suc k) zero le ne = absurd (omega (arith, le))
grows (suc k) (suc c) le ne = let i = grows k c (omega (arith, le)) (λ e. ne (ap suc e)) in omega (arith, i)

-- the columns from one on that are chosen, and the cells of these
abbrev chosen : (ℕ → Bool) → (k n : ℕ) → List ℕ
chosen p k n = filter p (range_with_len k n)

abbrev Shows : List ℕ → Tuple → ℕ → Type 0
Shows columns r c = cell_for columns (pick columns r) c ≡ cell r c

passed_cell : (b : Bool) (k c : ℕ) (columns : List ℕ) (r : Tuple) → eqb k c ≡ false → Shows columns r c → Shows (cond b (k ∷ columns) columns) r c
passed_cell true k c columns r e i = ap (λ (q : Bool). cond q (cell r k) (cell_for columns (pick columns r) c)) e ∙ i
passed_cell false k c columns r e i = i

chosen_cell : (p : ℕ → Bool) (k n c : ℕ) (r : Tuple) → k ≤ c → c < k + n → p c ≡ true → Shows (chosen p k n) r c
chosen_cell p k zero c r le lt h = absurd (omega (arith, le, lt))
chosen_cell p k (suc n) c r le lt h = split (λ ne. chosen_cell p (k + 1) n c r (grows k c le ne) (omega (arith, lt)) h) (eqb_tells k c)
  where
    split : ((k ≢ c) → Shows (chosen p (k + 1) n) r c) → ((eqb k c ≡ true) × (k ≡ c)) ⊎ ((eqb k c ≡ false) × (k ≢ c)) → Shows (cond (p k) (k ∷ chosen p (k + 1) n) (chosen p (k + 1) n)) r c
    split later (inl s) =
        ap (λ (b : Bool). cell_for (cond b (k ∷ chosen p (k + 1) n) (chosen p (k + 1) n)) (pick (cond b (k ∷ chosen p (k + 1) n) (chosen p (k + 1) n)) r) c) (ap p s.1 ∙ h)
        ∙ ap (λ (b : Bool). cond b (cell r k) (cell_for (chosen p (k + 1) n) (pick (chosen p (k + 1) n) r) c)) s.0
        ∙ ap (cell r) s.1
    split later (inr s) = passed_cell (p k) k c (chosen p (k + 1) n) r s.0 (later s.1)

spread_cell : (k n c : ℕ) (wanted : List ℕ) (cells : Tuple) → c < n → cell (spread_from k n wanted cells) c ≡ cell_for wanted cells (k + c)
spread_cell k zero c wanted cells lt = absurd (omega (arith, lt))
spread_cell k (suc n) zero wanted cells lt = let e : k ≡ k + 0 = omega arith in ap (cell_for wanted cells) e
spread_cell k (suc n) (suc c) wanted cells lt = let e : suc k + c ≡ k + suc c = omega arith in spread_cell (suc k) n c wanted cells (omega (arith, lt)) ∙ ap (cell_for wanted cells) e

-- ---- a row as its level sees it

abbrev pub laid : LoopLevel → Tuple → Tuple
laid l r = seen l (shown_cells (spec2_of l.spec) r)

module _ (l : LoopLevel) (r : Tuple) where
  abbrev wanted : List ℕ
  wanted = l.spec.base.wanted.items

  abbrev by : Bool → Tuple
  by narrow = cond narrow (spread l.width wanted (cond narrow (pick wanted r) r)) (cond narrow (pick wanted r) r)

  pub laid_long : length r ≡ l.width → length (laid l r) ≡ l.width
  laid_long h = step l.spec.base.agreement.narrow
    where
      step : (b : Bool) → length (by b) ≡ l.width
      step true = spread_long l.width wanted (pick wanted r)
      step false = h

  pub laid_cell : (read : List ℕ) (base c : ℕ) → wanted ≡ wanted_of read base l.width → c < l.width → Stands read (further base c) → cell (laid l r) c ≡ cell r c
  laid_cell read base c e lt h = step l.spec.base.agreement.narrow
    where
      step : (b : Bool) → cell (by b) c ≡ cell r c
      step true =
          let z : 0 + c ≡ c = omega arith in
          spread_cell 0 l.width c wanted (pick wanted r) lt
          ∙ ap (cell_for wanted (pick wanted r)) z
          ∙ ap (λ (cs : List ℕ). cell_for cs (pick cs r) c) e
          ∙ chosen_cell (λ k. list_any (nat_eq (further base k)) read) 0 l.width c r (omega arith) (omega (arith, lt)) h
      step false = refl

-- ---- tests of columns that are read

mutual
  pub columns_bare : (t : Tree) → columns_in (bare t) ≡ columns_in t
  columns_bare (column at) = refl
  columns_bare (parameter at) = refl
  columns_bare (literal v) = refl
  columns_bare (compare op a b) = two (λ (x y : List ℕ). x ++ y) (columns_bare a) (columns_bare b)
  columns_bare (compute op a b) = two (λ (x y : List ℕ). x ++ y) (columns_bare a) (columns_bare b)
  columns_bare (negate a) = columns_bare a
  columns_bare (all_of ts) = all_columns_bare ts
  columns_bare (some_of ts) = all_columns_bare ts
  columns_bare (opposite a) = columns_bare a
  columns_bare (asks t negative a) = columns_bare a
  columns_bare (between negative x a b) = two (λ (x y : List ℕ). x ++ y) (columns_bare x) (two (λ (x y : List ℕ). x ++ y) (columns_bare a) (columns_bare b))
  columns_bare (within negative x ts) = two (λ (x y : List ℕ). x ++ y) (columns_bare x) (all_columns_bare ts)
  columns_bare (matches negative x pattern) = columns_bare x
  columns_bare (parenthesised a) = columns_bare a
  columns_bare count_rows = refl
  columns_bare (aggregate function a) = columns_bare a

  all_columns_bare : (ts : Trees) → columns_in_all (bare_all ts) ≡ columns_in_all ts
  all_columns_bare none = refl
  all_columns_bare (part t ts) = two (λ (x y : List ℕ). x ++ y) (columns_bare t) (all_columns_bare ts)

least_is : (a b m : ℕ) → a ≡ b → b < m → min a m ≡ b
least_is a b m e h = omega (arith, e, h)

module _ (read : List ℕ) (base width : ℕ) (few : base + width < most) where
  -- a column of the entry that is read
  abbrev pub IsWanted : ℕ → Type 0
  IsWanted c = (c < width) × Stands read (further base c)

  abbrev TestWanted : TestOf → Type 0
  TestWanted (with_literal c op v) = IsWanted c
  TestWanted (with_earlier c op place) = IsWanted c
  TestWanted (asks_null c negative) = IsWanted c

  abbrev OfferWanted : Option TestOf → Type 0
  OfferWanted None = Unit {0}
  OfferWanted (Some t) = TestWanted t

  wanted_if : (b : Bool) (o : Option TestOf) → (b ≡ true → OfferWanted o) → OfferWanted (cond b o None)
  wanted_if true o h = h refl
  wanted_if false o h = tt

  wanted_either : (o p : Option TestOf) → OfferWanted o → OfferWanted p → OfferWanted (either o p)
  wanted_either None p h i = i
  wanted_either (Some t) p h i = h

  wanted_in : (a : ℕ) (t : TestOf) → Stands read a → (IsWanted (a - base) → TestWanted t) → OfferWanted (where_in base width a t)
  wanted_in a t h f =
      wanted_if (in_entry base width a) (Some t) (λ mine.
      let lo : base ≤ a = leb-true base a (and_left (nat_le base a) (nat_lt a (base + width)) mine) in
      let hi : a < base + width = below a (base + width) (and_right (nat_le base a) (nat_lt a (base + width)) mine) in
      let small = few in
      let there : further base (a - base) ≡ a = least_is (a - base + base) a most (omega (arith, lo)) (omega (arith, hi, small)) in
      f (omega (arith, lo, hi), subst (Stands read) (sym there) h))

  wanted_other : (a b : ℕ) (op : Comparison) → Stands read a → OfferWanted (with_other base width a op b)
  wanted_other a b op h = wanted_if (nat_lt b base) (where_in base width a (with_earlier (a - base) op b)) (λ earlier. wanted_in a (with_earlier (a - base) op b) h (λ w. w))

  wanted_bare : (u : Tree) → AllStand read (columns_in u) → OfferWanted (offered_test base width u)
  wanted_bare (compare op (column a) (literal v)) h = wanted_in a (with_literal (a - base) op v) h.0 (λ w. w)
  wanted_bare (compare op (literal v) (column a)) h = wanted_in a (with_literal (a - base) (mirrored op) v) h.0 (λ w. w)
  wanted_bare (compare op (column a) (column b)) h =
      wanted_either (with_other base width a op b) (with_other base width b (mirrored op) a) (wanted_other a b op h.0) (wanted_other b a (mirrored op) h.1.0)
  wanted_bare (asks statuses.Null negative (column a)) h = wanted_in a (asks_null (a - base) negative) h.0 (λ w. w)
  wanted_bare u h = tt

  all_wanted : (ts : List Tree) → AllRead read ts → Each OfferWanted (tests_of base width ts)
  all_wanted [] h = tt
  all_wanted (t ∷ ts) h = (wanted_bare (bare t) (subst (AllStand read) (sym (columns_bare t)) h.0), all_wanted ts h.1)

  one_form : (k : ℕ) (t : TestOf) → TestWanted t → IsWanted (form_by k t).column
  one_form k (with_literal c op v) h = h
  one_form k (with_earlier c op place) h = h
  one_form k (asks_null c negative) h = h

  wanted_forms : (k : ℕ) (os : List (Option TestOf)) → Each OfferWanted os → Each (λ (f : RestrictionForm). IsWanted f.column) (forms_from k os)
  wanted_forms k [] h = tt
  wanted_forms k (None ∷ os) h = wanted_forms k os h.1
  wanted_forms k (Some t ∷ os) h = (one_form k t h.0, wanted_forms (next_by t k) os h.1)

  pub forms_wanted : (ts : List Tree) → AllRead read ts → Each (λ (f : RestrictionForm). IsWanted f.column) (forms_from 0 (tests_of base width ts))
  forms_wanted ts h = wanted_forms 0 (tests_of base width ts) (all_wanted ts h)

-- ---- what restrictions say of two rows

abbrev pub AreSame : (r q : Tuple) → List RestrictionForm → Type 0
AreSame r q fs = Each (λ (f : RestrictionForm). cell q f.column ≡ cell r f.column) fs

module _ (params r q : Tuple) where
  met_one : (f : RestrictionForm) → cell q f.column ≡ cell r f.column → meets params q f ≡ meets params r f
  met_one f e = ap (checks params f.test) e

  pub met_all : (fs : List RestrictionForm) → AreSame r q fs → meets_all fs params q ≡ meets_all fs params r
  met_all [] h = refl
  met_all (f ∷ fs) h = two (λ (a b : Bool). a && b) (met_one f h.0) (met_all fs h.1)

  pub met_exact : (fs : List RestrictionForm) (answers : List Agree) → AreSame r q fs → meets_exact fs answers params q ≡ meets_exact fs answers params r
  met_exact [] answers h = refl
  met_exact (f ∷ fs) [] h = refl
  met_exact (f ∷ fs) (Exact ∷ answers) h = two (λ (a b : Bool). a && b) (met_one f h.0) (met_exact fs answers h.1)
  met_exact (f ∷ fs) (Ignored ∷ answers) h = met_exact fs answers h.1
  met_exact (f ∷ fs) (Hint ∷ answers) h = met_exact fs answers h.1
