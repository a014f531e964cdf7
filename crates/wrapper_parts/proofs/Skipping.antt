-- The rows between a place and the first place behind it that has what a scan looks for are not taken.
use Rattle.std.proofs.Common.{◌≡◌, ℕ, ◌+◌, ◌<◌, ◌≤◌, Bool, true, false, ◌&&◌, cond, if◌then◌else◌, List, [], ◌∷◌, Option, Some, filter, length, drop, zero, suc, refl, ap, sym, ◌∙◌, subst, arith}
use Rattle.std.proofs.lemmas.List.{drop-drop}
use Rattle.med_value.specs.Datum.{Datum, Tuple, cell}
use Rattle.fdw_api.specs.Scan.{Spec, TableRow, meets_exact}
use Rattle.wrapper_parts.specs.Places.{equals, first_place}
use Rattle.wrapper_parts.specs.Scans.{SoughtForm, sought, has_sought, is_taken, column_cells}

-- the first place from at on: not before it; there stands a cell that is equal to the value, or no cell; and what a scan takes from at on it
-- takes from there on
pub record Skips (test : TableRow → Bool) (params : Tuple) (rows : List TableRow) (s : SoughtForm) (at to : ℕ) : Type 0 where
  pub past : at ≤ to
  pub has : to < length rows → equals (cell params s.parameter) (cell (column_cells s.column rows) to) ≡ true
  pub same : filter test (drop at rows) ≡ filter test (drop to rows)

cell_at : (column n : ℕ) (rows rs : List TableRow) (r : TableRow) → drop n rows ≡ r ∷ rs → cell (column_cells column rows) n ≡ cell r.cells column
cell_at column zero [] rs r e = absurd cc
cell_at column zero (x ∷ rows) rs r e = ap (λ (l : List TableRow). first l) e
  where
    first : List TableRow → Datum
    first [] = cell r.cells column
    first (y ∷ ys) = cell y.cells column
cell_at column (suc n) [] rs r e = absurd cc
cell_at column (suc n) (x ∷ rows) rs r e = cell_at column n rows rs r e

-- a test refuses each row that has not what is looked for
abbrev pub Needs : (TableRow → Bool) → Tuple → SoughtForm → Type 0
Needs test params s = (r : TableRow) → equals (cell params s.parameter) (cell r.cells s.column) ≡ false → test r ≡ false

pub taken_needs : (spec : Spec) (params : Tuple) (s : SoughtForm) → sought spec.offered ≡ Some s → Needs (is_taken spec params) params s
taken_needs spec params s e r h =
    ap (λ (o : Option SoughtForm). has_sought o params r.cells && meets_exact spec.offered spec.answers params r.cells) e ∙ ap (λ b. b && meets_exact spec.offered spec.answers params r.cells) h

behind : (rows : List TableRow) (n : ℕ) → drop n rows ≡ [] → n < length rows → ⊥
behind [] n e lt = absurd (omega arith)
behind (r ∷ rows) zero e lt = cc
behind (r ∷ rows) (suc n) e lt = behind rows n e (omega arith)

skips_from : (test : TableRow → Bool) (params : Tuple) (rows : List TableRow) (s : SoughtForm) → Needs test params s → (n : ℕ) (rs : List TableRow) → drop n rows ≡ rs
    → Skips test params rows s n (first_place n (cell params s.parameter) (column_cells s.column rs))
skips_from test params rows s e n [] d = record {
  past = omega arith;
  has = λ lt. absurd (behind rows n d lt);
  same = refl;
}
skips_from test params rows s e n (r ∷ rs) d = by (equals (cell params s.parameter) (cell r.cells s.column)) refl (skips_from test params rows s e (n + 1) rs further)
  where
    further : drop (n + 1) rows ≡ rs
    further = sym (drop-drop 1 n rows) ∙ ap (drop 1) d

    by : (b : Bool) → equals (cell params s.parameter) (cell r.cells s.column) ≡ b → Skips test params rows s (n + 1) (first_place (n + 1) (cell params s.parameter) (column_cells s.column rs))
        → Skips test params rows s n (if b then n else first_place (n + 1) (cell params s.parameter) (column_cells s.column rs))
    by true h w = record {
      past = omega arith;
      has = λ lt. ap (equals (cell params s.parameter)) (cell_at s.column n rows rs r d) ∙ h;
      same = refl;
    }
    by false h w = record {
      past = let p = w.past in omega arith;
      has = w.has;
      same = ap (filter test) d
          ∙ ap (λ b. cond b (r ∷ filter test rs) (filter test rs)) (e r h)
          ∙ ap (filter test) (sym further) ∙ w.same;
    }

dropped_cells : (column n : ℕ) (rows : List TableRow) → drop n (column_cells column rows) ≡ column_cells column (drop n rows)
dropped_cells column zero rows = refl
dropped_cells column (suc n) [] = refl
dropped_cells column (suc n) (r ∷ rows) = dropped_cells column n rows

pub skips : (test : TableRow → Bool) (params : Tuple) (rows : List TableRow) (s : SoughtForm) (at to : ℕ) → Needs test params s
    → to ≡ first_place at (cell params s.parameter) (drop at (column_cells s.column rows)) → Skips test params rows s at to
skips test params rows s at to e q =
    subst (λ (k : ℕ). Skips test params rows s at k)
    (sym (q ∙ ap (first_place at (cell params s.parameter)) (dropped_cells s.column at rows))) (skips_from test params rows s e at (drop at rows) refl)
