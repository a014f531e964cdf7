-- Tables of tab-separated lines as tables by place.
use Rattle.std.proofs.Common.{◌≡◌, ℕ, ◌+◌, ◌<◌, ◌++◌, List, [], ◌∷◌, Some, length, map, flat_map, get_or, slice_get, replicate, zero, suc, refl, ap, sym, ◌∙◌, arith}
use Rattle.std.proofs.lemmas.List.{map-append}
use Rattle.std.proofs.lemmas.Option.{same_Some}
use Rattle.med_value.specs.Datum.{Tuple, tuple}
use Rattle.med_value.specs.declared.value.Row.{Row}
use Rattle.fdw_api.specs.Prelude.{TableRow, Held, held, Change, rows_after, row_after, inserted}
use Rattle.wrapper_parts.specs.declared.fates.Fate.{Fate}
use Rattle.wrapper_parts.specs.declared.fates.Fate.TheVariants.{Keep}
use Rattle.wrapper_parts.proofs.Weaves.{left_from}
use Rattle.tab_tests.specs.Kept.{no_line, as_held, numbered, left_by, rows_left}

pub rows_length : (n : ℕ) (rows : List Row) → length (numbered n (map tuple rows)) ≡ length rows
rows_length n [] = refl
rows_length n (r ∷ rs) = ap (λ (k : ℕ). suc k) (rows_length (n + 1) rs)

-- the row at a place
pub row_there : (n at : ℕ) (rows : List Row) (row : Row) (r : TableRow) → at < length rows → row ≡ get_or rows at row
    → slice_get (numbered n (map tuple rows)) at ≡ Some r → tuple row ≡ r.cells
row_there n at [] row r lt e is = absurd (omega arith)
row_there n zero (x ∷ rows) row r lt e is = ap tuple e ∙ ap (λ (z : TableRow). z.cells) (same_Some _ r is)
row_there n (suc at) (x ∷ rows) row r lt e is = row_there (n + 1) at rows row r (omega arith) e is

pub held_numbered : (n : ℕ) (rows : List Tuple) → map held (numbered n rows) ≡ map as_held rows
held_numbered n [] = refl
held_numbered n (c ∷ cs) = ap (λ (l : List Held). as_held c ∷ l) (held_numbered (n + 1) cs)

pub cells_back : (rows : List Tuple) → map (λ (h : Held). h.cells) (map as_held rows) ≡ rows
cells_back [] = refl
cells_back (c ∷ cs) = ap (λ (l : List Tuple). c ∷ l) (cells_back cs)

-- rows of which none has a fate yet
pub unsorted : (n : ℕ) (rows : List Tuple) (changes : List Change)
    → left_from no_line as_held tuple n rows (replicate (length rows) Keep) changes ≡ flat_map (λ r. row_after no_line r.id changes (held r ∷ [])) (numbered n rows)
unsorted n [] changes = refl
unsorted n (c ∷ cs) changes = ap (λ (l : List Held). row_after no_line n changes (as_held c ∷ []) ++ l) (unsorted (n + 1) cs changes)

length_map : (rows : List Row) → length (map tuple rows) ≡ length rows
length_map [] = refl
length_map (r ∷ rs) = ap (λ (k : ℕ). suc k) (length_map rs)

pub after_changes : (rows kept fresh after : List Row) (fates begun : List (Fate Row)) (changes : List Change)
    → begun ≡ replicate (length rows) Keep
    → ((olds : List Tuple) → map as_held (left_by fates olds) ≡ rows_left olds begun changes)
    → map tuple kept ≡ left_by fates (map tuple rows) → map as_held (map tuple fresh) ≡ flat_map (inserted no_line) changes
    → after ≡ kept ++ fresh
    → map as_held (map tuple after) ≡ rows_after no_line (numbered 0 (map tuple rows)) changes
after_changes rows kept fresh after fates begun changes eb ef ek en ea =
    let all : begun ≡ replicate (length (map tuple rows)) Keep = eb ∙ ap (λ (n : ℕ). replicate n Keep) (sym (length_map rows)) in
    let old : map as_held (map tuple kept) ≡ flat_map (λ r. row_after no_line r.id changes (held r ∷ [])) (numbered 0 (map tuple rows)) =
    ap (map as_held) ek ∙ ef (map tuple rows) ∙ ap (λ (fs : List (Fate Row)). rows_left (map tuple rows) fs changes) all ∙ unsorted 0 (map tuple rows) changes in
    ap (λ (l : List Row). map as_held (map tuple l)) ea ∙ ap (map as_held) (map-append tuple kept fresh) ∙ map-append as_held (map tuple kept) (map tuple fresh)
    ∙ ap (λ (l : List Held). l ++ map as_held (map tuple fresh)) old
    ∙ ap (λ (l : List Held). flat_map (λ r. row_after no_line r.id changes (held r ∷ [])) (numbered 0 (map tuple rows)) ++ l) en
