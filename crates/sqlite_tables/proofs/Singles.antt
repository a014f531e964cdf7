-- The rows of a value are found, each by its key.
use Rattle.std.proofs.Common.{◌≡◌, ℕ, ℤ, ◌+◌, ◌<◌, ◌<ℤ◌, Bool, true, false, cond, List, [], ◌∷◌, ◌++◌, map, filter, take, drop, length}
use Rattle.std.proofs.Common.{get_or, zero, suc, IsTrue, append_assoc, refl, ap, sym, ◌∙◌, subst, arith}
use Rattle.std.proofs.lemmas.Int.{ints}
use Rattle.std.proofs.lemmas.List.{map-append, drop-drop, length-map, length-append}
use Rattle.std.specs.declared.cmp.Ordering.TheVariants.{Less}
use Rattle.std.specs.List.{AllByRecursion}
use Rattle.sqlite.specs.Effect.{Database}
use Rattle.sqlite.specs.Order.{Row as SqlRow, value_cmp}
use Rattle.sqlite.specs.Tree.{rowid, IsTable}
use Rattle.sqlite.specs.View.{IsShaped, is_int}
use Rattle.sqlite_trees.specs.declared.store.Shape.TheVariants as shape
use Rattle.sqlite_trees.proofs.ListLemmas.{filter-filter, all-filter, ascending-filter}
use Rattle.sqlite_looks.specs.Pages.{in_range, key_of, range_of, paged}
use Rattle.med_value.specs.Datum.{Datum, cell}
use Rattle.fdw_api.specs.Scan.{TableRow}
use Rattle.wrapper_parts.specs.Indexes.{IsIndexFrom}
use Rattle.wrapper_parts.specs.Places.{equals, first_place, Follows}
use Rattle.wrapper_parts.specs.Scans.{SoughtForm, column_cells}
use Rattle.wrapper_parts.proofs.Skipping.{skips}
use Rattle.sqlite_tables.specs.Layouts.{Layout, places}
use Rattle.sqlite_tables.specs.Cells.{key_in, row_in, rows_in, least, greatest}
use Rattle.sqlite_tables.specs.Tables.{entries_of}
use Rattle.sqlite_tables.proofs.PagesJoin.{between, lower, Ints, Inside, inside_filter}
use Rattle.sqlite_tables.specs.declared.reading.Lookup.{Lookup}
use Rattle.sqlite_tables.specs.Lookups.{IsLookup, has_value, rows_with}

-- these rows were found, and those that were not are at a place or after it; at that place is one, or no row
pub record IsFound (l : Layout) (entries : List SqlRow) (column : ℕ) (v : Datum) (at : ℕ) (found : List SqlRow) : Type 0 where
  pub parts : map (row_in l) found ++ filter (has_value column v) (drop at (rows_in l entries)) ≡ rows_with l column v entries
  pub here : at < length (rows_in l entries) → equals v (cell (column_cells column (rows_in l entries)) at) ≡ true

-- ---- the row of a key

self : (k m : ℤ) → k ≡ m → between k k m ≡ true
self k m e = grind (arith, ints, e)

not_above : (k m : ℤ) → k <ℤ m → between k k m ≡ false
not_above k m less = grind (arith, ints)

not_below : (k m : ℤ) → m <ℤ k → between k k m ≡ false
not_below k m less = grind (arith, ints)

inner : (k m : ℤ) → between least greatest k ≡ true → between k k m ≡ true → between least greatest m ≡ true
inner k m inside e = grind (arith, ints)

-- rows after a row have greater keys
none_behind : (r : SqlRow) (es : List SqlRow) → IsTrue (is_int (rowid r)) → AllByRecursion (λ e. value_cmp (rowid r) (rowid e) ≡ Less) es
    → Ints es
    → filter (in_range (key_of r) (key_of r)) es ≡ []
none_behind r [] h up ints_are = refl
none_behind r (e ∷ es) h up ints_are = rw (not_above (key_of r) (key_of e) (lower (rowid r) (rowid e) h ints_are.0 up.0))
    (none_behind r es h up.1 ints_are.1)

greater : (l : Layout) (r : SqlRow) (es : List SqlRow) (p : ℕ) (d : ℤ) → IsTrue (is_int (rowid r))
    → AllByRecursion (λ e. value_cmp (rowid r) (rowid e) ≡ Less) es → Ints es → p < length es
    → key_of r <ℤ get_or (map key_in (map (paged (places l)) es)) p d
greater l r [] p d h up ints_are lt = absurd (omega (arith, lt))
greater l r (e ∷ es) zero d h up ints_are lt = lower (rowid r) (rowid e) h ints_are.0 up.0
greater l r (e ∷ es) (suc p) d h up ints_are lt = greater l r es p d h up.1 ints_are.1 (omega (arith, lt))

one_of : (l : Layout) (es : List SqlRow) (p : ℕ) (k d : ℤ) → IsTable es → Ints es → p < length es
    → k ≡ get_or (map key_in (map (paged (places l)) es)) p d → filter (in_range k k) es ≡ take 1 (drop p es)
one_of l [] p k d up ints_are lt e = absurd (omega (arith, lt))
one_of l (r ∷ es) zero k d up ints_are lt e =
    let none : filter (in_range k k) es ≡ [] = subst (λ (z : ℤ). filter (in_range z z) es ≡ []) (sym e)
    (none_behind r es ints_are.0 up.0 ints_are.1) in
    rw (self k (key_of r) e, none) refl
one_of l (r ∷ es) (suc p) k d up ints_are lt e =
    let less : key_of r <ℤ k = subst (λ (z : ℤ). key_of r <ℤ z) (sym e)
    (greater l r es p d ints_are.0 up.0 ints_are.1 (omega (arith, lt))) in
    rw (not_below k (key_of r) less) (one_of l es p k d up.1 ints_are.1 (omega (arith, lt)) e)

inside_at : (l : Layout) (es : List SqlRow) (p : ℕ) (d : ℤ) → Inside least greatest es → p < length es
    → between least greatest (get_or (map key_in (map (paged (places l)) es)) p d) ≡ true
inside_at l [] p d inside lt = absurd (omega (arith, lt))
inside_at l (e ∷ es) zero d inside lt = inside.0
inside_at l (e ∷ es) (suc p) d inside lt = inside_at l es p d inside.1 (omega (arith, lt))

first_paged : (l : Layout) (p : ℕ) (es : List SqlRow)
    → map (paged (places l)) (take 1 (drop p es)) ≡ take 1 (drop p (map (paged (places l)) es))
first_paged l zero [] = refl
first_paged l zero (e ∷ es) = refl
first_paged l (suc p) [] = refl
first_paged l (suc p) (e ∷ es) = first_paged l p es

-- the one row of a key is the row at the key's place
pub single : (l : Layout) (p : ℕ) (k d : ℤ) (entries : List SqlRow) → IsShaped shape.Table entries
    → p < length (range_of (places l) least greatest entries)
    → k ≡ get_or (map key_in (range_of (places l) least greatest entries)) p d
    → range_of (places l) k k entries ≡ take 1 (drop p (range_of (places l) least greatest entries))
single l p k d entries shaped lt e =
    let es = filter (in_range least greatest) entries in
    let inside = inside_filter greatest least entries in
    let up = ascending-filter _ (in_range least greatest) entries shaped.0 in
    let ints_are = all-filter (λ r. IsTrue (is_int (rowid r))) (in_range least greatest) entries shaped.1 in
    let n = length-map es (paged (places l)) in
    let within : p < length es = omega (arith, lt, n) in
    let at : between least greatest k ≡ true = subst (λ (z : ℤ). between least greatest z ≡ true) (sym e)
    (inside_at l es p d inside within) in
    let wider = filter-filter (in_range k k) (in_range least greatest) (λ r h. inner k (key_of r) at h) entries in
    ap (map (paged (places l))) (sym wider ∙ one_of l es p k d up ints_are within e) ∙ first_paged l p es

alone : (r row : SqlRow) (before : List SqlRow) → r ∷ [] ≡ before ++ row ∷ [] → row ≡ r
alone r row [] e = cc
alone r row (b ∷ before) e = absurd (long (ap length e))
  where
    long : 1 ≡ length (b ∷ (before ++ row ∷ [])) → ⊥
    long h = let n = length-append before (row ∷ []) in omega (arith, h, n)

first_is : (xs before : List SqlRow) (row : SqlRow) → 0 < length xs → take 64 (take 1 xs) ≡ before ++ row ∷ [] → xs ≡ row ∷ drop 1 xs
first_is [] before row lt e = absurd (omega (arith, lt))
first_is (x ∷ xs) before row lt e = ap (λ (r : SqlRow). r ∷ xs) (sym (alone x row before e))

left_at : (p : ℕ) (xs : List SqlRow) → p < length xs → 0 < length (drop p xs)
left_at p [] lt = absurd (omega (arith, lt))
left_at zero (x ∷ xs) lt = omega arith
left_at (suc p) (x ∷ xs) lt = left_at p xs (omega (arith, lt))

-- what was read by the key at a place is the row there
pub row_there : (l : Layout) (p : ℕ) (k d : ℤ) (entries before : List SqlRow) (row : SqlRow) → IsShaped shape.Table entries
    → p < length (range_of (places l) least greatest entries)
    → k ≡ get_or (map key_in (range_of (places l) least greatest entries)) p d
    → take 64 (range_of (places l) k k entries) ≡ before ++ row ∷ []
    → drop p (range_of (places l) least greatest entries) ≡ row ∷ drop (p + 1) (range_of (places l) least greatest entries)
row_there l p k d entries before row shaped lt e read =
    let rows = range_of (places l) least greatest entries in
    let is = ap (take 64) (sym (single l p k d entries shaped lt e)) ∙ read in
    first_is (drop p rows) before row (left_at p rows lt) is ∙ ap (λ (l : List SqlRow). row ∷ l) (drop-drop 1 p rows)

-- ---- the rows of a value

dropped : (l : Layout) (p : ℕ) (xs : List SqlRow) → drop p (map (row_in l) xs) ≡ map (row_in l) (drop p xs)
dropped l zero xs = refl
dropped l (suc p) [] = refl
dropped l (suc p) (x ∷ xs) = dropped l p xs

cell_there : (column p : ℕ) (rows rs : List TableRow) (r : TableRow) → drop p rows ≡ r ∷ rs
    → cell (column_cells column rows) p ≡ cell r.cells column
cell_there column zero [] rs r e = absurd cc
cell_there column zero (x ∷ rows) rs r e = ap (λ (l : List TableRow). first l) e
  where
    first : List TableRow → Datum
    first [] = cell r.cells column
    first (y ∷ ys) = cell y.cells column
cell_there column (suc p) [] rs r e = absurd cc
cell_there column (suc p) (x ∷ rows) rs r e = cell_there column p rows rs r e

module _ (l : Layout) (es : List SqlRow) (column : ℕ) (v : Datum) where
  abbrev rows : List TableRow
  rows = rows_in l es

  abbrev cells : List Datum
  cells = column_cells column rows

  abbrev form : SoughtForm
  form = record { column = column; parameter = 0 }

  -- how many rows there are
  pub rows_count : length rows ≡ length (range_of (places l) least greatest es)
  rows_count = length-map (range_of (places l) least greatest es) (row_in l)

  pub cells_count : length cells ≡ length (range_of (places l) least greatest es)
  cells_count = length-map rows (λ (r : TableRow). cell r.cells column) ∙ rows_count

  -- before the first place no row is found
  pub none_found : (to : ℕ) → to ≡ first_place 0 v (drop 0 cells) → IsFound l es column v to []
  none_found to is =
      let w = skips (has_value column v) (v ∷ []) rows form 0 to (λ r e. e) is in
      record { parts = sym w.same; here = w.has }

  -- a place after one of the value
  pub goes_on : (at : ℕ) (found : List SqlRow) → at < length (range_of (places l) least greatest es) → IsFound l es column v at found
      → Follows v cells (at + 1)
  goes_on at found lt h k e =
      let same : at ≡ k = omega (arith, e) in
      let n = rows_count in
      let m = cells_count in
      subst (λ (j : ℕ). (j < length cells) × (equals v (cell cells j) ≡ true)) same (omega (arith, lt, m), h.here (omega (arith, lt, n)))

  -- one row more
  pub one_found : (at to : ℕ) (found : List SqlRow) (row : SqlRow) → at < length (range_of (places l) least greatest es)
      → drop at (range_of (places l) least greatest es) ≡ row ∷ drop (at + 1) (range_of (places l) least greatest es)
      → to ≡ first_place (at + 1) v (drop (at + 1) cells) → IsFound l es column v at found
      → IsFound l es column v to (found ++ row ∷ [])
  one_found at to found row lt there is h =
      let test = has_value column v in
      let w = skips test (v ∷ []) rows form (at + 1) to (λ r e. e) is in
      let n = rows_count in
      let next : drop at rows ≡ row_in l row ∷ drop (at + 1) rows =
      dropped l at (range_of (places l) least greatest es) ∙ ap (map (row_in l)) there
      ∙ ap (λ (rs : List TableRow). row_in l row ∷ rs) (sym (dropped l (at + 1) (range_of (places l) least greatest es))) in
      let yes : test (row_in l row) ≡ true = ap (equals v) (sym (cell_there column at rows (drop (at + 1) rows) (row_in l row) next))
      ∙ h.here (omega (arith, lt, n)) in
      let here : filter test (drop at rows) ≡ row_in l row ∷ filter test (drop to rows) =
      ap (filter test) next ∙ ap (λ (b : Bool). cond b (row_in l row ∷ filter test (drop (at + 1) rows))
      (filter test (drop (at + 1) rows))) yes
      ∙ ap (λ (rs : List TableRow). row_in l row ∷ rs) w.same in
      record {
        parts =
            ap (λ (rs : List TableRow). rs ++ filter test (drop to rows)) (map-append (row_in l) found (row ∷ []))
            ∙ append_assoc (map (row_in l) found) (row_in l row ∷ []) (filter test (drop to rows))
            ∙ ap (λ (rs : List TableRow). map (row_in l) found ++ rs) (sym here) ∙ h.parts;
        here = w.has;
      }

-- ---- by a lookup

key_count : (l : Layout) (es : List SqlRow) (x : Lookup) → IsLookup l es x
    → length x.keys.items ≡ length (range_of (places l) least greatest es)
key_count l es x is = ap length is.keys_are ∙ length-map (range_of (places l) least greatest es) key_in

pub found_first : (l : Layout) (es : List SqlRow) (x : Lookup) (v : Datum) (to : ℕ) (found : List SqlRow) → IsLookup l es x
    → ((cells : List Datum) → IsIndexFrom 0 cells x.index → Follows v cells 0 → to ≡ first_place 0 v (drop 0 cells)) → found ≡ []
    → IsFound l es x.column v to found
found_first l es x v to found is next none =
    subst (IsFound l es x.column v to) (sym none)
    (none_found l es x.column v to (next (column_cells x.column (rows_in l es)) is.index_is (λ k e. absurd (omega (arith, e)))))

pub found_further : (l : Layout) (db after : Database) (x : Lookup) (v : Datum) (at to : ℕ) (key : ℤ) (before found new : List SqlRow)
    (row : SqlRow) → after ≡ db
    → IsShaped shape.Table (entries_of db l) → IsLookup l (entries_of db l) x → at < length x.keys.items → key ≡ get_or x.keys.items at key
    → take 64 (range_of (places l) key key (entries_of after l)) ≡ before ++ row ∷ []
    → ((cells : List Datum) → IsIndexFrom 0 cells x.index → Follows v cells (at + 1) → to ≡ first_place (at + 1) v (drop (at + 1) cells))
    → new ≡ found ++ row ∷ []
    → IsFound l (entries_of db l) x.column v at found → IsFound l (entries_of db l) x.column v to new
found_further l db after x v at to key before found new row same shaped is lt key_is read next new_is h =
    let es = entries_of db l in
    let n = key_count l es x is in
    let within : at < length (range_of (places l) least greatest es) = omega (arith, lt, n) in
    let now = subst (λ (d : Database). take 64 (range_of (places l) key key (entries_of d l)) ≡ before ++ row ∷ []) same read in
    let there = row_there l at key key es before row shaped within (key_is ∙ ap (λ (ks : List ℤ). get_or ks at key) is.keys_are) now in
    let to_is = next (column_cells x.column (rows_in l es)) is.index_is (goes_on l es x.column v at found within h) in
    subst (IsFound l es x.column v to) (sym new_is) (one_found l es x.column v at to found row within there to_is h)
