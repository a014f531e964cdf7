-- The rows of a list with their places as ids.
use Rattle.std.proofs.Common.{◌≡◌, ℕ, ◌+◌, ◌<◌, ◌≤◌, Bool, ◌&&◌, List, [], ◌∷◌, length, map, drop, get_or, zero, suc, refl, ap, sym, ◌∙◌, arith}
use Rattle.std.specs.List.{list_all}
use Rattle.std.proofs.lemmas.List.{drop_more}
use Rattle.med_value.specs.Datum.{tuple}
use Rattle.med_value.specs.declared.value.Row.{Row}
use Rattle.med_value.specs.declared.value.ColType.{ColType}
use Rattle.fdw_api.specs.Scan.{TableRow, row_fits}
use Rattle.list_wrapper.specs.Scans.{numbered}

-- a row with an id
abbrev pub row_at : ℕ → Row → TableRow
row_at id r = record { id = id; cells = tuple r; origin = [] }

pub length_numbered : (n : ℕ) (rs : List Row) → length (numbered n rs) ≡ length rs
length_numbered n [] = refl
length_numbered n (r ∷ rs) = ap (λ (k : ℕ). suc k) (length_numbered (n + 1) rs)

pub within : (rows : List Row) (at : ℕ) → at < length rows → at < length (numbered 0 rows)
within rows at lt = let n = length_numbered 0 rows in omega arith

pub beyond : (rows : List Row) (at : ℕ) → length rows ≤ at → length (numbered 0 rows) ≤ at
beyond rows at le = let n = length_numbered 0 rows in omega arith

at_numbered : (n at : ℕ) (rs : List Row) (d : TableRow) (r : Row) → at < length rs → get_or (numbered n rs) at d ≡ row_at (n + at) (get_or rs at r)
at_numbered n at [] d r lt = absurd (omega arith)
at_numbered n zero (x ∷ rs) d r lt = ap (λ (k : ℕ). row_at k x) (omega arith)
at_numbered n (suc at) (x ∷ rs) d r lt = at_numbered (n + 1) at rs d r (omega arith) ∙ ap (λ (k : ℕ). row_at k (get_or rs at r)) (omega arith)

pub next_numbered : (rows : List Row) (at : ℕ) (r : Row) → at < length rows → r ≡ get_or rows at r → drop at (numbered 0 rows) ≡ row_at at r ∷ drop (at + 1) (numbered 0 rows)
next_numbered rows at r lt e =
    let n = length_numbered 0 rows in
    drop_more (numbered 0 rows) at (row_at at r) (omega arith) ∙ ap (λ (y : TableRow). y ∷ drop (at + 1) (numbered 0 rows)) (at_numbered 0 at rows (row_at at r) r lt ∙ ap (row_at (0 + at)) (sym e) ∙ ap (λ (k : ℕ). row_at k r) (omega arith))

pub numbered_fit : (kinds : List ColType) (n : ℕ) (rs : List Row) → list_all (λ (r : TableRow). row_fits kinds r.cells) (numbered n rs) ≡ list_all (row_fits kinds) (map tuple rs)
numbered_fit kinds n [] = refl
numbered_fit kinds n (r ∷ rs) = ap (λ (b : Bool). row_fits kinds (tuple r) && b) (numbered_fit kinds (n + 1) rs)

-- what is read twice at a place within is one row
pub one_row : (rows : List Row) (at : ℕ) (r s : Row) → at < length rows → r ≡ get_or rows at r → s ≡ get_or rows at s → r ≡ s
one_row [] at r s lt e f = absurd (omega arith)
one_row (x ∷ rows) zero r s lt e f = e ∙ sym f
one_row (x ∷ rows) (suc at) r s lt e f = one_row rows at r s (omega arith) e f
