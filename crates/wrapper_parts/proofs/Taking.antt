-- Which rows a scan gives that looks for a parameter.
use Rattle.std.proofs.Common.{◌≡◌, ℕ, ◌+◌, ◌<◌, Bool, true, false, not, ◌&&◌, cond, if◌then◌else◌, List, [], ◌∷◌, ◌++◌, Option, Some, map, filter, length, take, drop, Contains, slice_index_or, zero, suc, refl, ap, sym, ◌∙◌, subst, arith}
use Rattle.std.specs.List.{list_all}
use Rattle.std.proofs.lemmas.List.{drop-drop}
use Rattle.std.proofs.lemmas.List.Sorted.{IsPermutation-filter_both}
use Rattle.std.proofs.lemmas.List.Elements.{filter_passes, All-weaker}
use Rattle.med_value.specs.Datum.{Datum, Tuple, cell}
use Rattle.med_value.specs.declared.order.Comparison.TheVariants as comparisons
use Rattle.fdw_api.specs.Prelude.{Spec, RestrictionForm, TestForm, Compares, Missing, Present, Given, Slot, TableRow, IsComing, meets, meets_all, meets_exact, checks, given_row, is_unpromised}
use Rattle.fdw_api.proofs.Unpromised.{any_order, all_first, promises_none}
use Rattle.fdw_api.specs.declared.scan.Agree.{Agree}
use Rattle.fdw_api.specs.declared.scan.Agree.TheVariants.{Ignored, Hint, Exact}
use Rattle.wrapper_parts.specs.Places.{equals, places, places_from}
use Rattle.wrapper_parts.specs.Scans.{SoughtForm, seeks, sought, sought_of, or_else, has_sought, is_exact, takes, rows_taken, column_cells, rows_at_places, taken_at}

both_fail : (b x y : Bool) → (not x ≡ true → y ≡ false) → not (b && x) ≡ true → (b && y) ≡ false
both_fail true x y f e = f e
both_fail false x y f e = refl

one_fails : (b y : Bool) → y ≡ false → (b && y) ≡ false
one_fails true y e = e
one_fails false y e = refl

first_fails : (b y : Bool) → b ≡ false → (b && y) ≡ false
first_fails true y e = absurd cc
first_fails false y e = refl

either_fails : (q p all : Bool) → (q ≡ false → all ≡ false) → (not p ≡ true → all ≡ false) → not (q && p) ≡ true → all ≡ false
either_fails true p all f g e = g e
either_fails false p all f g e = f refl

-- what an Exact restriction refuses does not meet all
pub exact_fails : (fs : List RestrictionForm) (answers : List Agree) (params cells : Tuple) → not (meets_exact fs answers params cells) ≡ true → meets_all fs params cells ≡ false
exact_fails [] answers params cells e = absurd cc
exact_fails (f ∷ fs) [] params cells e = absurd cc
exact_fails (f ∷ fs) (Exact ∷ answers) params cells e = both_fail (meets params cells f) (meets_exact fs answers params cells) _ (exact_fails fs answers params cells) e
exact_fails (f ∷ fs) (Ignored ∷ answers) params cells e = one_fails (meets params cells f) _ (exact_fails fs answers params cells e)
exact_fails (f ∷ fs) (Hint ∷ answers) params cells e = one_fails (meets params cells f) _ (exact_fails fs answers params cells e)

-- a restriction that was offered and is not true: not all are
one_of_fails : (p : RestrictionForm → Bool) (fs : List RestrictionForm) (k : ℕ) (f : RestrictionForm) → k < length fs → slice_index_or fs k f ≡ f → p f ≡ false → list_all p fs ≡ false
one_of_fails p [] k f lt e h = absurd (omega arith)
one_of_fails p (g ∷ fs) zero f lt e h = first_fails (p g) _ (ap p e ∙ h)
one_of_fails p (g ∷ fs) (suc k) f lt e h = one_fails (p g) _ (one_of_fails p fs k f (omega arith) e h)

step_fails : (column : ℕ) (test : TestForm) (rest : Option SoughtForm) (params cells : Tuple) (more : Bool) → (has_sought rest params cells ≡ false → more ≡ false)
    → has_sought (or_else (sought_of column test) rest) params cells ≡ false → (checks params test (cell cells column) && more) ≡ false
step_fails column (Compares comparisons.Equal (Slot at)) rest params cells more f e = first_fails _ more e
step_fails column (Compares comparisons.Equal (Given v)) rest params cells more f e = one_fails _ more (f e)
step_fails column (Compares comparisons.Apart o) rest params cells more f e = one_fails _ more (f e)
step_fails column (Compares comparisons.Below o) rest params cells more f e = one_fails _ more (f e)
step_fails column (Compares comparisons.AtMost o) rest params cells more f e = one_fails _ more (f e)
step_fails column (Compares comparisons.Above o) rest params cells more f e = one_fails _ more (f e)
step_fails column (Compares comparisons.AtLeast o) rest params cells more f e = one_fails _ more (f e)
step_fails column Missing rest params cells more f e = one_fails _ more (f e)
step_fails column Present rest params cells more f e = one_fails _ more (f e)

-- a row without what is looked for does not meet all
sought_fails : (fs : List RestrictionForm) (params cells : Tuple) → has_sought (sought fs) params cells ≡ false → meets_all fs params cells ≡ false
sought_fails [] params cells e = absurd cc
sought_fails (f ∷ fs) params cells e = step_fails f.column f.test (sought fs) params cells (meets_all fs params cells) (sought_fails fs params cells) e

-- a scan that takes the rows of a test and of what is Exact, where a row that fails the test does not meet all
comes_by : (rows : List TableRow) (spec : Spec) (params : Tuple) (test : TableRow → Bool) → is_unpromised spec ≡ true
    → ((r : TableRow) → test r ≡ false → meets_all spec.offered params r.cells ≡ false)
    → IsComing rows spec params (map (given_row spec) (filter (λ r. test r && is_exact spec params r) rows))
comes_by rows spec params test free fails = record {
  taken = filter (λ r. test r && is_exact spec params r) rows;
  left_out = filter (λ r. not (test r && is_exact spec params r)) rows;
  parts = IsPermutation-filter_both (λ r. test r && is_exact spec params r) (λ r. not (test r && is_exact spec params r)) (λ r. refl) rows;
  failing = All-weaker _ _ (λ r e. either_fails (test r) (is_exact spec params r) _ (fails r) (exact_fails spec.offered spec.answers params r.cells) e) _
      (filter_passes (λ r. not (test r && is_exact spec params r)) rows);
  exact = All-weaker _ _ (λ r e. second (test r) (is_exact spec params r) e) _ (filter_passes (λ r. test r && is_exact spec params r) rows);
  sorted = any_order spec.order (promises_none spec free).0 (filter (λ r. test r && is_exact spec params r) rows);
  is = ap (map (given_row spec)) (sym (all_first spec.limit (promises_none spec free).1 (filter (λ r. test r && is_exact spec params r) rows)));
}
  where
    second : (a b : Bool) → (a && b) ≡ true → b ≡ true
    second true b e = e
    second false b e = absurd cc

pub taken_comes : (rows : List TableRow) (spec : Spec) (params : Tuple) → is_unpromised spec ≡ true
    → IsComing rows spec params (map (given_row spec) (rows_taken spec params rows))
taken_comes rows spec params free = comes_by rows spec params (λ r. has_sought (sought spec.offered) params r.cells) free (λ r e. sought_fails spec.offered params r.cells e)

filter_twice : (p q : TableRow → Bool) (rows : List TableRow) → filter p (filter q rows) ≡ filter (λ r. q r && p r) rows
filter_twice p q [] = refl
filter_twice p q (r ∷ rows) = by (q r) (filter_twice p q rows)
  where
    by : (b : Bool) → filter p (filter q rows) ≡ filter (λ r. q r && p r) rows → filter p (cond b (r ∷ filter q rows) (filter q rows)) ≡ cond (b && p r) (r ∷ filter (λ r. q r && p r) rows) (filter (λ r. q r && p r) rows)
    by true e = ap (λ l. cond (p r) (r ∷ l) l) e
    by false e = e

-- the rows at the places of a value are those that have it
places_rows : (v : Datum) (column n : ℕ) (rs rows : List TableRow) → drop n rows ≡ rs
    → rows_at_places (places_from n v (column_cells column rs)) rows ≡ filter (λ r. equals v (cell r.cells column)) rs
places_rows v column n [] rows e = refl
places_rows v column n (r ∷ rs) rows e = by (equals v (cell r.cells column)) (places_rows v column (n + 1) rs rows further)
  where
    further : drop (n + 1) rows ≡ rs
    further = sym (drop-drop 1 n rows) ∙ ap (drop 1) e

    by : (b : Bool) → rows_at_places (places_from (n + 1) v (column_cells column rs)) rows ≡ filter (λ r. equals v (cell r.cells column)) rs
        → rows_at_places (if b then n ∷ places_from (n + 1) v (column_cells column rs) else places_from (n + 1) v (column_cells column rs)) rows
        ≡ cond b (r ∷ filter (λ r. equals v (cell r.cells column)) rs) (filter (λ r. equals v (cell r.cells column)) rs)
    by true h = ap (λ l. take 1 l ++ rows_at_places (places_from (n + 1) v (column_cells column rs)) rows) e ∙ ap (λ l. r ∷ l) h
    by false h = h

at_places_by : (rows : List TableRow) (spec : Spec) (params : Tuple) (s : SoughtForm)
    → taken_at spec params (places (cell params s.parameter) (column_cells s.column rows)) rows
    ≡ filter (λ r. equals (cell params s.parameter) (cell r.cells s.column) && is_exact spec params r) rows
at_places_by rows spec params s =
    ap (filter (is_exact spec params)) (places_rows (cell params s.parameter) s.column 0 rows rows refl)
    ∙ filter_twice (is_exact spec params) (λ r. equals (cell params s.parameter) (cell r.cells s.column)) rows

pub sought_comes : (rows : List TableRow) (spec : Spec) (params : Tuple) (s : SoughtForm) → is_unpromised spec ≡ true → Contains spec.offered (seeks s)
    → IsComing rows spec params (map (given_row spec) (taken_at spec params (places (cell params s.parameter) (column_cells s.column rows)) rows))
sought_comes rows spec params s free h =
    subst (λ (l : List TableRow). IsComing rows spec params (map (given_row spec) l)) (sym (at_places_by rows spec params s))
    (comes_by rows spec params (λ r. equals (cell params s.parameter) (cell r.cells s.column)) free (λ r e. one_of_fails (meets params r.cells) spec.offered h.0 (seeks s) h.1 h.2 e))

pub taken_at_places : (rows : List TableRow) (spec : Spec) (params : Tuple) (s : SoughtForm) → sought spec.offered ≡ Some s
    → rows_taken spec params rows ≡ taken_at spec params (places (cell params s.parameter) (column_cells s.column rows)) rows
taken_at_places rows spec params s e =
    ap (λ (o : Option SoughtForm). filter (λ r. has_sought o params r.cells && is_exact spec params r) rows) e ∙ sym (at_places_by rows spec params s)

-- what is taken meets what is Exact, and what is not taken does not meet all
pub takes_exact : (spec : Spec) (params cells : Tuple) → takes spec params cells ≡ true → meets_exact spec.offered spec.answers params cells ≡ true
takes_exact spec params cells e = second (has_sought (sought spec.offered) params cells) _ e
  where
    second : (a b : Bool) → (a && b) ≡ true → b ≡ true
    second true b e = e
    second false b e = absurd cc

pub takes_sound : (spec : Spec) (params cells : Tuple) → takes spec params cells ≡ false → meets_all spec.offered params cells ≡ false
takes_sound spec params cells e =
    either_fails (has_sought (sought spec.offered) params cells) (meets_exact spec.offered spec.answers params cells) _ (sought_fails spec.offered params cells) (exact_fails spec.offered spec.answers params cells) (ap not e)
