-- First columns that rise, record by record and change by change.
use Rattle.std.proofs.Common.{◌≡◌, ◌≤◌, ◌<◌, ◌+◌, ◌≤ℤ◌, ℕ, ℤ, zero, suc, Bool, true, false, nat_eq, if◌then◌else◌, List, [], ◌∷◌, ◌++◌, length, map, flat_map, drop, string_bytes, refl, ap, sym, ◌∙◌, subst, FitsSigned, w64, arith, below_more}
use Rattle.std.proofs.lemmas.Int.{ints}
use Rattle.std.proofs.lemmas.Bool.Decides.{nat_tests}
use Rattle.std.proofs.lemmas.List.{map-append}
use Rattle.med_value.specs.Datum.{Datum, Whole, Tuple, cell}
use Rattle.fdw_api.specs.Prelude.{TableRow, Held, held, Change, Inserts, Updates, Deletes, row_after, inserted, rows_after}
use Rattle.wrapper_parts.specs.Rising.{AreInOrder, AreRising}
use Rattle.wrapper_parts.specs.Scans.{column_cells}
use Rattle.csv_tables.specs.declared.layout.Layout.{Layout}
use Rattle.csv_tables.specs.declared.table.CsvTable.{CsvTable}
use Rattle.csv_tables.specs.Cells.{line_of, record_cells}
use Rattle.csv_tables.specs.CsvRecords.{Record}
use Rattle.csv_tables.specs.Held.{held_of}
use Rattle.csv_tables.specs.Shapes.{Shape, read_row}
use Rattle.csv_tables.specs.Tables.{shape_is, numbered, records_of, cells_at, fields_at}
use Rattle.csv_tables.specs.Rewriting.{rows_in, Rewrites}
use Rattle.csv_tables.specs.Rises.{IsKey, RiseUpTo, KeepRising, first_column, first_cells}
use Rattle.csv_tables.proofs.Flat.{cut_drop}
use Rattle.csv_tables.proofs.Placing.{rows_count}

abbrev Line : Type 0
Line = Tuple → List (List ℕ)

-- the cell of the record at a place
first_from : (shape : Shape) (n k : ℕ) (rs more : List Record) (r : Record) → drop k rs ≡ r ∷ more
    → cell (column_cells 0 (numbered shape n rs)) k ≡ cell (record_cells shape.null shape.kinds r) 0
first_from shape n zero [] more r e = absurd cc
first_from shape n (suc k) [] more r e = absurd cc
first_from shape n zero (q ∷ rs) more r e =
    let is : q ≡ r = cc in
    ap (λ (x : Record). cell (record_cells shape.null shape.kinds x) 0) is
first_from shape n (suc k) (q ∷ rs) more r e = first_from shape (n + 1) k rs more r e

pub key_there : (t : CsvTable) (at : ℕ) → at < t.rows.count → cell (first_column t) at ≡ cell (cells_at t at) 0
key_there t at lt = first_from (shape_is t.layout) 0 at (records_of t.rows) _ (fields_at t at) (cut_drop at t.rows.count t.rows.width (held_of t.rows.fields) lt)

cells_length : (rows : List TableRow) → length (column_cells 0 rows) ≡ length rows
cells_length [] = refl
cells_length (r ∷ rows) = ap (λ (k : ℕ). suc k) (cells_length rows)

-- there are as many cells as records
pub keys_count : (t : CsvTable) → length (first_column t) ≡ t.rows.count
keys_count t = cells_length (rows_in t) ∙ rows_count t

-- the cells of rows that are read from records
first_numbered : (shape : Shape) (n : ℕ) (rs : List Record) → column_cells 0 (numbered shape n rs) ≡ first_cells (map (read_row shape) rs)
first_numbered shape n [] = refl
first_numbered shape n (r ∷ rs) =
    ap (λ (ds : List Datum). cell (record_cells shape.null shape.kinds r) 0 ∷ ds) (first_numbered shape (n + 1) rs)

le_on : (a b c d : ℤ) → a ≤ℤ b → b ≡ c → c ≤ℤ d → a ≤ℤ d
le_on a b c d p e q = omega (arith, ints)

le_same : (a : ℤ) → a ≤ℤ a
le_same a = omega (arith, ints)

-- cells in order, one after the other
order_on : (a b c : Datum) → AreInOrder a b → AreInOrder b c → AreInOrder a c
order_on a b c p q =
    let e : Whole p.high ≡ Whole q.low = sym p.second_is ∙ q.first_is in
    let same : p.high ≡ q.low = cc in
    record { low = p.low; high = q.high; first_is = p.first_is; second_is = q.second_is; fits = p.fits; order = le_on p.low p.high q.low q.high p.order same q.order }

keys_in_order : (a b : Datum) (low high : ℤ) → IsKey a low → b ≡ Whole high → low ≤ℤ high → AreInOrder a b
keys_in_order a b low high first second le = record { low = low; high = high; first_is = first.is; second_is = second; fits = first.fits; order = le }

in_order_itself : (d : Datum) (key : ℤ) → IsKey d key → AreInOrder d d
in_order_itself d key is = keys_in_order d d key key is is.is (le_same key)

whole_key : (key : ℤ) → FitsSigned w64 key → IsKey (Whole key) key
whole_key key fits = record { is = refl; fits = fits }

-- no cell yet
pub up_to_none : (cells : List Datum) (key : ℤ) → FitsSigned w64 key → RiseUpTo cells key 0
up_to_none cells key fits = record { fits = fits; rise = λ one other le lt. absurd (omega arith); below = λ one lt. absurd (omega arith) }

-- one cell more
pub up_to_more : (cells : List Datum) (low key : ℤ) (at : ℕ) → RiseUpTo cells low at → IsKey (cell cells at) key → low ≤ℤ key → RiseUpTo cells key (at + 1)
up_to_more cells low key at up is le =
    let step : AreInOrder (Whole low) (cell cells at) = keys_in_order (Whole low) (cell cells at) low key (whole_key low up.fits) is.is le in
    let self = in_order_itself (cell cells at) key is in
    let last : (one : ℕ) → one < at + 1 → AreInOrder (cell cells one) (cell cells at) =
    below_more (λ (k : ℕ). AreInOrder (cell cells k) (cell cells at)) at (λ k lt. order_on (cell cells k) (Whole low) (cell cells at) (up.below k lt) step) self in
    let rise : (other : ℕ) → other < at + 1 → (one : ℕ) → one ≤ other → AreInOrder (cell cells one) (cell cells other) =
    below_more (λ (k : ℕ). (one : ℕ) → one ≤ k → AreInOrder (cell cells one) (cell cells k)) at (λ k lt one order. up.rise one k order lt)
    (λ one order. last one (omega arith)) in
    record {
      fits = is.fits;
      rise = λ one other order lt. rise other lt one order;
      below = λ one lt. subst (λ (d : Datum). AreInOrder (cell cells one) d) is.is (last one lt);
    }

-- all cells
pub up_to_all : (cells : List Datum) (key : ℤ) (at : ℕ) → RiseUpTo cells key at → length cells ≤ at → AreRising cells
up_to_all cells key at up all = λ one other le lt. up.rise one other le (omega arith)

-- the last of cells that rise is over none of them
pub up_to_last : (cells : List Datum) (at count : ℕ) (key : ℤ) → length cells ≡ count → at + 1 ≡ count → IsKey (cell cells at) key → AreRising cells
    → RiseUpTo cells key count
up_to_last cells at count key many last is rising = record {
  fits = is.fits;
  rise = λ one other le lt. rising one other le (omega arith);
  below = λ one lt. subst (λ (d : Datum). AreInOrder (cell cells one) d) is.is (rising one at (omega arith) (omega arith));
}

-- each of a list
abbrev Each : (Datum → Type 0) → List Datum → Type 0
Each P [] = Unit {0}
Each P (d ∷ ds) = P d × Each P ds

-- each of a list is in order with itself and with those behind it
abbrev Chain : List Datum → Type 0
Chain [] = Unit {0}
Chain (d ∷ ds) = Each (AreInOrder d) (d ∷ ds) × Chain ds

each_at : (P : Datum → Type 0) (ds : List Datum) (k : ℕ) → Each P ds → k < length ds → P (cell ds k)
each_at P [] k e lt = absurd (omega arith)
each_at P (d ∷ ds) zero e lt = e.0
each_at P (d ∷ ds) (suc k) e lt = each_at P ds k e.1 (omega arith)

each_of : (P : Datum → Type 0) (ds : List Datum) → ((k : ℕ) → k < length ds → P (cell ds k)) → Each P ds
each_of P [] h = tt
each_of P (d ∷ ds) h = (h 0 (omega arith), each_of P ds (λ k lt. h (suc k) (omega arith)))

each_as : (P Q : Datum → Type 0) (ds : List Datum) → ((d : Datum) → P d → Q d) → Each P ds → Each Q ds
each_as P Q [] h e = tt
each_as P Q (d ∷ ds) h e = (h d e.0, each_as P Q ds h e.1)

each_both : (P : Datum → Type 0) (xs ys : List Datum) → Each P xs → Each P ys → Each P (xs ++ ys)
each_both P [] ys a b = b
each_both P (x ∷ xs) ys a b = (a.0, each_both P xs ys a.1 b)

-- all of a list are one and the same
abbrev Are : Datum → List Datum → Type 0
Are d = Each (λ e. e ≡ d)

each_same : (P : Datum → Type 0) (d : Datum) (ds : List Datum) → Are d ds → P d → Each P ds
each_same P d ds same p = each_as (λ e. e ≡ d) P ds (λ e is. subst P (sym is) p) same

chain_of : (ds : List Datum) → AreRising ds → Chain ds
chain_of [] h = tt
chain_of (d ∷ ds) h =
    (each_of (AreInOrder d) (d ∷ ds) (λ k lt. h 0 k (omega arith) lt), chain_of ds (λ at later le lt. h (suc at) (suc later) (omega arith) (omega arith)))

chain_at : (ds : List Datum) → Chain ds → (at later : ℕ) → at ≤ later → later < length ds → AreInOrder (cell ds at) (cell ds later)
chain_at [] c at later le lt = absurd (omega arith)
chain_at (d ∷ ds) c zero later le lt = each_at (AreInOrder d) (d ∷ ds) later c.0 lt
chain_at (d ∷ ds) c (suc at) zero le lt = absurd (omega arith)
chain_at (d ∷ ds) c (suc at) (suc later) le lt = chain_at ds c.1 at later (omega arith) (omega arith)

-- two chains, where a cell stands between them
chain_both : (xs ys : List Datum) (b : Datum) → Chain xs → Chain ys → Each (λ d. AreInOrder d b) xs → Each (AreInOrder b) ys → Chain (xs ++ ys)
chain_both [] ys b cx cy over below = cy
chain_both (x ∷ xs) ys b cx cy over below =
    (each_both (AreInOrder x) (x ∷ xs) ys cx.0 (each_as (AreInOrder b) (AreInOrder x) ys (λ d p. order_on x b d over.0 p) below), chain_both xs ys b cx.1 cy over.1 below)

-- the same cell, before those behind it
chain_same : (d : Datum) (xs ys : List Datum) → Are d xs → AreInOrder d d → Each (AreInOrder d) ys → Chain ys → Chain (xs ++ ys)
chain_same d [] ys same self below cy = cy
chain_same d (x ∷ xs) ys same self below cy =
    let all = each_both (AreInOrder d) (x ∷ xs) ys (each_same (AreInOrder d) d (x ∷ xs) same self) below in
    (subst (λ (e : Datum). Each (AreInOrder e) (x ∷ (xs ++ ys))) (sym same.0) all, chain_same d xs ys same.1 self below cy)

same_place : (j id : ℕ) → nat_eq j id ≡ true → j ≡ id
same_place j id e = grind (arith, nat_tests)

-- an update of a row that leaves its first cell, and a deletion
updated : (cells : List Datum) (id j : ℕ) (h : Held) (now : List Held) (b : Bool) → (b ≡ true → j ≡ id) → cell h.cells 0 ≡ cell cells j
    → Are (cell cells id) (first_cells now) → Are (cell cells id) (first_cells (if b then h ∷ [] else now))
updated cells id j h now true place is e = (is ∙ ap (cell cells) (place refl), tt)
updated cells id j h now false place is e = e

deleted : (d : Datum) (now : List Held) (b : Bool) → Are d (first_cells now) → Are d (first_cells (if b then [] else now))
deleted d now true e = tt
deleted d now false e = e

-- what such changes leave of a row has its first cell
row_keeps : (line : Line) (cells : List Datum) (low : Datum) (id : ℕ) (cs : List Change) (now : List Held) → KeepRising cells low cs
    → Are (cell cells id) (first_cells now) → Are (cell cells id) (first_cells (row_after line id cs now))
row_keeps line cells low id [] now keep e = e
row_keeps line cells low id (Inserts x ∷ cs) now keep e = row_keeps line cells (cell x 0) id cs now keep.1.1 e
row_keeps line cells low id (Updates j x ∷ cs) now keep e =
    let new : Held = record { cells = x; origin = line x } in
    row_keeps line cells low id cs (if nat_eq j id then new ∷ [] else now) keep.1 (updated cells id j new now (nat_eq j id) (same_place j id) keep.0 e)
row_keeps line cells low id (Deletes j ∷ cs) now keep e =
    row_keeps line cells low id cs (if nat_eq j id then [] else now) keep (deleted (cell cells id) now (nat_eq j id) e)

-- what changes leave of old rows
abbrev kept : Line → Shape → ℕ → List Record → List Change → List Held
kept line shape n rs cs = flat_map (λ r. row_after line r.id cs (held r ∷ [])) (numbered shape n rs)

-- the cells of records that begin at a place of a column
abbrev Stand : List Datum → Shape → ℕ → List Record → Type 0
Stand cells shape n rs = (k m : ℕ) → m ≡ n + k → cell cells m ≡ cell (column_cells 0 (numbered shape n rs)) k

stand_on : (cells : List Datum) (shape : Shape) (n : ℕ) (r : Record) (rs : List Record) → Stand cells shape n (r ∷ rs) → Stand cells shape (n + 1) rs
stand_on cells shape n r rs stand = λ k m is. stand (suc k) m (omega arith)

-- the rows that are left of one record, and their first cells
abbrev left_of : Line → Shape → ℕ → Record → List Change → List Held
left_of line shape n r cs = row_after line n cs (read_row shape r ∷ [])

one_keeps : (line : Line) (cells : List Datum) (low : Datum) (cs : List Change) (shape : Shape) (n : ℕ) (r : Record) (rs : List Record)
    → KeepRising cells low cs → Stand cells shape n (r ∷ rs) → Are (cell (record_cells shape.null shape.kinds r) 0) (first_cells (left_of line shape n r cs))
one_keeps line cells low cs shape n r rs keep stand =
    let is : cell cells n ≡ cell (record_cells shape.null shape.kinds r) 0 = stand 0 n (omega arith) in
    subst (λ (d : Datum). Are d (first_cells (left_of line shape n r cs))) is (row_keeps line cells low n cs (read_row shape r ∷ []) keep (sym is, tt))

-- what holds of each old cell holds of each that is left
kept_each : (P : Datum → Type 0) (line : Line) (cells : List Datum) (low : Datum) (cs : List Change) (shape : Shape) (n : ℕ) (rs : List Record)
    → KeepRising cells low cs → Stand cells shape n rs → Each P (column_cells 0 (numbered shape n rs)) → Each P (first_cells (kept line shape n rs cs))
kept_each P line cells low cs shape n [] keep stand e = tt
kept_each P line cells low cs shape n (r ∷ rs) keep stand e =
    let one = left_of line shape n r cs in
    let more = kept line shape (n + 1) rs cs in
    let first = each_same P (cell (record_cells shape.null shape.kinds r) 0) (first_cells one) (one_keeps line cells low cs shape n r rs keep stand) e.0 in
    subst (Each P) (sym (map-append (λ (h : Held). cell h.cells 0) one more))
    (each_both P (first_cells one) (first_cells more) first (kept_each P line cells low cs shape (n + 1) rs keep (stand_on cells shape n r rs stand) e.1))

-- the cells that are left are a chain
kept_chain : (line : Line) (cells : List Datum) (low : Datum) (cs : List Change) (shape : Shape) (n : ℕ) (rs : List Record)
    → KeepRising cells low cs → Stand cells shape n rs → Chain (column_cells 0 (numbered shape n rs)) → Chain (first_cells (kept line shape n rs cs))
kept_chain line cells low cs shape n [] keep stand c = tt
kept_chain line cells low cs shape n (r ∷ rs) keep stand c =
    let d = cell (record_cells shape.null shape.kinds r) 0 in
    let one = left_of line shape n r cs in
    let more = kept line shape (n + 1) rs cs in
    let on = stand_on cells shape n r rs stand in
    subst Chain (sym (map-append (λ (h : Held). cell h.cells 0) one more))
    (chain_same d (first_cells one) (first_cells more) (one_keeps line cells low cs shape n r rs keep stand) c.0.0
    (kept_each (AreInOrder d) line cells low cs shape (n + 1) rs keep on c.0.1) (kept_chain line cells low cs shape (n + 1) rs keep on c.1))

-- the first cells of inserted rows are a chain, none of them below the one from which they rise
fresh_chain : (line : Line) (cells : List Datum) (low : Datum) (cs : List Change) → KeepRising cells low cs
    → Chain (first_cells (flat_map (inserted line) cs)) × Each (AreInOrder low) (first_cells (flat_map (inserted line) cs))
fresh_chain line cells low [] keep = (tt, tt)
fresh_chain line cells low (Inserts x ∷ cs) keep =
    let more = fresh_chain line cells (cell x 0) cs keep.1.1 in
    let above = each_as (AreInOrder (cell x 0)) (AreInOrder low) (first_cells (flat_map (inserted line) cs)) (λ d p. order_on low (cell x 0) d keep.0 p) more.1 in
    (((keep.1.0, more.1), more.0), (keep.0, above))
fresh_chain line cells low (Updates j x ∷ cs) keep = fresh_chain line cells low cs keep.1
fresh_chain line cells low (Deletes j ∷ cs) keep = fresh_chain line cells low cs keep

-- after such changes the first column rises
pub stays : (t : CsvTable) (line : Line) (key : ℤ) (cs : List Change) → AreRising (first_column t) → RiseUpTo (first_column t) key t.rows.count
    → KeepRising (first_column t) (Whole key) cs → AreRising (first_cells (rows_after line (rows_in t) cs))
stays t line key cs rising up keep =
    let cells = first_column t in
    let shape = shape_is t.layout in
    let rs = records_of t.rows in
    let many = keys_count t in
    let stand : Stand cells shape 0 rs = λ k m is. (let same : m ≡ k = omega arith in ap (cell cells) same) in
    let fresh = fresh_chain line cells (Whole key) cs keep in
    let below = each_of (λ d. AreInOrder d (Whole key)) cells (λ k lt. up.below k (omega arith)) in
    let left = kept line shape 0 rs cs in
    let new = flat_map (inserted line) cs in
    let both = chain_both (first_cells left) (first_cells new) (Whole key) (kept_chain line cells (Whole key) cs shape 0 rs keep stand (chain_of cells rising)) fresh.0
    (kept_each (λ d. AreInOrder d (Whole key)) line cells (Whole key) cs shape 0 rs keep stand below) fresh.1 in
    chain_at (first_cells (left ++ new)) (subst Chain (sym (map-append (λ (h : Held). cell h.cells 0) left new)) both)

-- an insertion of a row that begins with a key which is not less than the one before it
pub insert_on : (cells : List Datum) (low key : ℤ) (x : Tuple) → FitsSigned w64 low → IsKey (cell x 0) key → low ≤ℤ key → (cs : List Change)
    → KeepRising cells (Whole key) cs → KeepRising cells (Whole low) (Inserts x ∷ cs)
insert_on cells low key x fits is le cs keep = (
  keys_in_order (Whole low) (cell x 0) low key (whole_key low fits) is.is le,
  (in_order_itself (cell x 0) key is, subst (λ (d : Datum). KeepRising cells d cs) (sym is.is) keep),
)

-- what is read again after a write rises, where the rows after its changes do
pub after_rises : (t : CsvTable) (l : Layout) (header rs : List Record) (image : List ℕ) (cs : List Change) → shape_is l ≡ shape_is t.layout → Rewrites t cs header rs image
    → AreRising (first_cells (rows_after (line_of (string_bytes t.layout.null)) (rows_in t) cs)) → AreRising (column_cells 0 (numbered (shape_is l) 0 rs))
after_rises t l header rs image cs same did rising =
    let is = first_numbered (shape_is l) 0 rs ∙ ap (λ (s : Shape). first_cells (map (read_row s) rs)) same ∙ ap first_cells did.rows in
    subst (λ (ds : List Datum). AreRising ds) (sym is) rising
