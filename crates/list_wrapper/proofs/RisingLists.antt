-- The rows that a scan does not take beside its places, changes after which a list still rises, and the tables that are marked as rising.
use Rattle.std.proofs.Common.{◌≡◌, ◌≢◌, ◌+◌, ◌<◌, ◌≤◌, ◌⊎◌, inl, inr, eqb, nat_eq, max, nat_le, if◌then◌else◌, ℕ, ℤ, Bool, true, false, cond, List, [], ◌∷◌, ◌++◌, Some, map, filter, length, drop, get_or, slice_get, slice_set, slice_index_or, zero, suc, refl, ap, sym, ◌∙◌, subst, FitsSigned, w64, arith, rules}
use Rattle.std.proofs.lemmas.Option.{slice_get_within}
use Rattle.std.proofs.lemmas.Bool.Decides.{eqb_tells, nat_tests}
use Rattle.med_value.specs.Datum.{Datum, NoValue, Whole, Chars, Logic, Tuple, cell, tuple}
use Rattle.med_value.specs.declared.value.Row.{Row}
use Rattle.fdw_api.specs.Scan.{Spec, TableRow, meets_exact}
use Rattle.wrapper_parts.specs.declared.ranges.KeyRange.{KeyRange}
use Rattle.wrapper_parts.specs.Ranges.{has_key}
use Rattle.wrapper_parts.specs.Rising.{AreRising, AreInOrder}
use Rattle.wrapper_parts.specs.Halves.{is_in, IsAround}
use Rattle.wrapper_parts.specs.KeepingRise.{IsKey, KeepRising, KeepsRise, fresh_cells}
use Rattle.wrapper_parts.specs.Scans.{column_cells, is_taken}
use Rattle.wrapper_parts.proofs.KeptRise.{Each, Chain, chain_of, chain_at, rises_on}
use Rattle.wrapper_parts.proofs.Taking.{takes_exact}
use Rattle.list_wrapper.specs.declared.held_tables.Table.{Table}
use Rattle.list_wrapper.specs.declared.changes.ListChange.{ListChange}
use Rattle.list_wrapper.specs.declared.changes.ListChange.TheVariants.{Insert, Update, Delete}
use Rattle.list_wrapper.specs.Ordered.{AreOrdered}
use Rattle.list_wrapper.specs.Changes.{change_is, row_changed, fresh_rows}
use Rattle.list_wrapper.specs.Stay.{stay}
use Rattle.list_wrapper.specs.Scans.{numbered, keys_of, rows_at, listed_rows, left_in_turn, Spans, Rises}
use Rattle.list_wrapper.proofs.Closing.{set_there, set_other}

same_place : (j id : ℕ) → nat_eq j id ≡ true → j ≡ id
same_place j id e = grind (arith, nat_tests)

-- rows that a test refuses, before a place and from a place on
skip_before : (test : TableRow → Bool) (rows : List TableRow) (k first : ℕ) → k ≤ first
    → ((i : ℕ) (r : TableRow) → i < first → slice_get rows i ≡ Some r → test r ≡ false) → filter test (drop k rows) ≡ filter test (drop first rows)
skip_before test rows zero zero le h = refl
skip_before test rows (suc k) zero le h = absurd (omega arith)
skip_before test [] zero (suc n) le h = refl
skip_before test [] (suc k) (suc n) le h = refl
skip_before test (r ∷ rows) zero (suc n) le h =
    ap (λ b. cond b (r ∷ filter test rows) (filter test rows)) (h zero r (omega arith) refl)
    ∙ skip_before test rows zero n (omega arith) (λ i q lt e. h (suc i) q (omega arith) e)
skip_before test (r ∷ rows) (suc k) (suc n) le h = skip_before test rows k n (omega arith) (λ i q lt e. h (suc i) q (omega arith) e)

none_after : (test : TableRow → Bool) (rows : List TableRow) (end : ℕ)
    → ((k : ℕ) (r : TableRow) → end ≤ k → slice_get rows k ≡ Some r → test r ≡ false) → filter test (drop end rows) ≡ []
none_after test [] zero h = refl
none_after test [] (suc n) h = refl
none_after test (r ∷ rows) zero h =
    ap (λ b. cond b (r ∷ filter test rows) (filter test rows)) (h zero r (omega arith) refl)
    ∙ none_after test rows zero (λ k q le e. h (suc k) q (omega arith) e)
none_after test (r ∷ rows) (suc n) h = none_after test rows n (λ k q le e. h (suc k) q (omega arith) e)

starts : (cells : Tuple) (n : ℤ) → cell cells 0 ≡ Whole n → (rest : Tuple) × (cells ≡ Whole n ∷ rest)
starts [] n e = absurd cc
starts (d ∷ rest) n e = (rest, ap (λ (v : Datum). v ∷ rest) e)

-- a range has each key of which the Exact restrictions of a scan may be true
abbrev pub Admits : Spec → Tuple → KeyRange → Type 0
Admits spec params range = (k : ℤ) (rest : Tuple) → FitsSigned w64 k
    → meets_exact spec.offered spec.answers params (Whole k ∷ rest) ≡ true → has_key range k ≡ true

pub cells_length : (rows : List TableRow) → length (column_cells 0 rows) ≡ length rows
cells_length [] = refl
cells_length (r ∷ rows) = ap (λ (n : ℕ). suc n) (cells_length rows)

pub keys_are : (n : ℕ) (rows : List Row) → column_cells 0 (numbered n rows) ≡ keys_of rows
keys_are n [] = refl
keys_are n (r ∷ rows) = ap (λ (ds : List Datum). cell (tuple r) 0 ∷ ds) (keys_are (n + 1) rows)

pub keys_length : (rows : List Row) → length (keys_of rows) ≡ length rows
keys_length [] = refl
keys_length (r ∷ rows) = ap (λ (n : ℕ). suc n) (keys_length rows)

cell_there : (at : ℕ) (rows : List TableRow) (r : TableRow) → slice_get rows at ≡ Some r → cell (column_cells 0 rows) at ≡ cell r.cells 0
cell_there at [] r e = absurd cc
cell_there zero (x ∷ rows) r e = let same : x ≡ r = cc in ap (λ (y : TableRow). cell y.cells 0) same
cell_there (suc at) (x ∷ rows) r e = cell_there at rows r e

-- the first cell of the row at a place
pub key_read : (at : ℕ) (rows : List Row) (r : Row) → at < length rows → cell (keys_of rows) at ≡ cell (tuple (get_or rows at r)) 0
key_read at [] r lt = absurd (omega arith)
key_read zero (x ∷ rows) r lt = refl
key_read (suc at) (x ∷ rows) r lt = key_read at rows r (omega arith)

pub key_is : (d e : Datum) (key : ℤ) → e ≡ d → IsKey d key → IsKey e key
key_is d e key same is = record { is = same ∙ is.is; fits = is.fits }

untaken : (spec : Spec) (params : Tuple) (rows : List TableRow) (range : KeyRange) (k : ℕ) (r : TableRow) → AreRising (column_cells 0 rows)
    → Admits spec params range → slice_get rows k ≡ Some r → is_in range (cell (column_cells 0 rows) k) ≡ false
    → is_taken spec params r ≡ false
untaken spec params rows range k r rising admits there out = tell (is_taken spec params r) refl
  where
    tell : (b : Bool) → is_taken spec params r ≡ b → b ≡ false
    tell false e = refl
    tell true e =
        let lt = slice_get_within rows k r there in
        let as_many = cells_length rows in
        let w = rising k k (omega arith) (omega arith) in
        let s = starts r.cells w.low (sym (cell_there k rows r there) ∙ w.first_is) in
        let has = admits w.low s.0 w.fits (subst (λ (cells : Tuple). meets_exact spec.offered spec.answers params cells ≡ true) s.1 (takes_exact spec params r.cells e)) in
        let lacks : has_key range w.low ≡ false = sym (ap (is_in range) w.first_is) ∙ out in
        sym has ∙ lacks

-- a scan has to go only over the places around which there is no key of its range
pub spans_around : (spec : Spec) (params : Tuple) (rows : List TableRow) (range : KeyRange) (first end : ℕ) → AreRising (column_cells 0 rows)
    → Admits spec params range → IsAround (column_cells 0 rows) range first end → Spans spec params rows first end
spans_around spec params rows range first end rising admits a =
    let as_many = cells_length rows in (
      λ i r lt e. untaken spec params rows range i r rising admits e (a.before i lt),
      λ i r up e. untaken spec params rows range i r rising admits e (a.behind i up (let lt = slice_get_within rows i r e in omega arith)),
      (let w = a.within in omega arith),
    )

-- so it has as much left from the later of a place and the first one, and nothing from the end on
later_place : (first k : ℕ) → (k ≤ first × (max k first ≡ first)) ⊎ (max k first ≡ k)
later_place first k = split (nat_le first k) refl
  where
    split : (b : Bool) → nat_le first k ≡ b → (k ≤ first × (max k first ≡ first)) ⊎ (max k first ≡ k)
    split true e = inr (grind (arith, nat_tests))
    split false e = inl (grind (arith, nat_tests), grind (arith, nat_tests))

pub left_from : (spec : Spec) (params : Tuple) (rows : List TableRow) (first end k : ℕ) → Spans spec params rows first end
    → left_in_turn spec params rows k ≡ left_in_turn spec params rows (max k first)
left_from spec params rows first end k h = from (later_place first k)
  where
    from : (k ≤ first × (max k first ≡ first)) ⊎ (max k first ≡ k) → left_in_turn spec params rows k ≡ left_in_turn spec params rows (max k first)
    from (inl p) = skip_before (is_taken spec params) rows k first p.0 h.0 ∙ ap (left_in_turn spec params rows) (sym p.1)
    from (inr p) = ap (left_in_turn spec params rows) (sym p)

pub none_behind : (spec : Spec) (params : Tuple) (rows : List TableRow) (first end k : ℕ) → Spans spec params rows first end → end ≤ k
    → left_in_turn spec params rows k ≡ []
none_behind spec params rows first end k h le = none_after (is_taken spec params) rows k (λ i r up e. h.1 i r (omega arith) e)

-- a change of a row that keeps first cells keeps that of each row
changed_key : (cells : List Datum) (low : Datum) (id : ℕ) (cs : List ListChange) (now : Row) → KeepRising cells low (map change_is cs)
    → cell (tuple now) 0 ≡ cell cells id → cell (tuple (row_changed id cs now)) 0 ≡ cell cells id
changed_key cells low id [] now keep e = e
changed_key cells low id (Insert r ∷ cs) now keep e = changed_key cells (cell (tuple r) 0) id cs now keep.1.1 e
changed_key cells low id (Update j r ∷ cs) now keep e =
    changed_key cells low id cs (if nat_eq j id then r else now) keep.1 (either (nat_eq j id) (same_place j id))
  where
    either : (b : Bool) → (b ≡ true → j ≡ id) → cell (tuple (if b then r else now)) 0 ≡ cell cells id
    either true place = keep.0 ∙ ap (cell cells) (place refl)
    either false place = e
changed_key cells low id (Delete j ∷ cs) now keep e = changed_key cells low id cs now keep e

-- the first cells of new rows
fresh_keys : (cs : List ListChange) → keys_of (fresh_rows cs) ≡ fresh_cells (map change_is cs)
fresh_keys [] = refl
fresh_keys (Insert r ∷ cs) = ap (λ (ds : List Datum). cell (tuple r) 0 ∷ ds) (fresh_keys cs)
fresh_keys (Update j r ∷ cs) = fresh_keys cs
fresh_keys (Delete j ∷ cs) = fresh_keys cs

-- rows that begin as other ones do, before those behind them
same_keys : (old new : List Row) → length old ≤ length new
    → ((i : ℕ) (d : Row) → i < length old → cell (tuple (get_or new i d)) 0 ≡ cell (tuple (get_or old i d)) 0)
    → keys_of new ≡ keys_of old ++ keys_of (drop (length old) new)
same_keys [] new le h = refl
same_keys (r ∷ old) [] le h = absurd (omega arith)
same_keys (r ∷ old) (x ∷ new) le h =
    let first : cell (tuple x) 0 ≡ cell (tuple r) 0 = h 0 r (omega arith) in
    ap (λ (d : Datum). d ∷ keys_of new) first
    ∙ ap (λ (ds : List Datum). cell (tuple r) 0 ∷ ds) (same_keys old new (omega arith) (λ i d lt. h (suc i) d (omega arith)))

-- rows with changed ones in their places and new ones behind all rise
written_rises : (old new : List Row) (cs : List ListChange)
    → ((i : ℕ) (d : Row) → i < length old → get_or new i d ≡ row_changed i cs (get_or old i d))
    → drop (length old) new ≡ fresh_rows cs → length old ≤ length new → KeepsRise (keys_of old) (map change_is cs) → AreRising (keys_of new)
written_rises old new cs changed fresh le h =
    let here : (i : ℕ) (d : Row) → i < length old → cell (tuple (get_or new i d)) 0 ≡ cell (tuple (get_or old i d)) 0 =
    (λ i d lt. let is = key_read i old d lt in
    ap (λ (r : Row). cell (tuple r) 0) (changed i d lt) ∙ changed_key (keys_of old) (Whole h.last) i cs (get_or old i d) h.keep (sym is) ∙ is) in
    let is = same_keys old new le here ∙ ap (λ (rows : List Row). keys_of old ++ keys_of rows) fresh ∙ ap (λ (ds : List Datum). keys_of old ++ ds) (fresh_keys cs) in
    subst (λ (ds : List Datum). AreRising ds) (sym is) (rises_on (keys_of old) (map change_is cs) h)

-- rows that stay, of some that rise
each_stays : (P : Datum → Type 0) (rows : List Row) (gone : List Bool) → Each P (keys_of rows) → Each P (keys_of (stay rows gone))
each_stays P [] gone e = tt
each_stays P (r ∷ rows) [] e = (e.0, each_stays P rows [] e.1)
each_stays P (r ∷ rows) (true ∷ gone) e = each_stays P rows gone e.1
each_stays P (r ∷ rows) (false ∷ gone) e = (e.0, each_stays P rows gone e.1)

chain_stays : (rows : List Row) (gone : List Bool) → Chain (keys_of rows) → Chain (keys_of (stay rows gone))
chain_stays [] gone c = tt
chain_stays (r ∷ rows) [] c = ((c.0.0, each_stays (AreInOrder (cell (tuple r) 0)) rows [] c.0.1), chain_stays rows [] c.1)
chain_stays (r ∷ rows) (true ∷ gone) c = chain_stays rows gone c.1
chain_stays (r ∷ rows) (false ∷ gone) c = ((c.0.0, each_stays (AreInOrder (cell (tuple r) 0)) rows gone c.0.1), chain_stays rows gone c.1)

stay_rises : (rows : List Row) (gone : List Bool) → AreRising (keys_of rows) → AreRising (keys_of (stay rows gone))
stay_rises rows gone h = chain_at (keys_of (stay rows gone)) (chain_stays rows gone (chain_of (keys_of rows) h))

-- rows after changes rise as the changes alone tell
pub applied_rises : (rows before read new left : List Row) (gone : List Bool) (cs heard : List ListChange) (mark stays : Bool)
    → before ≡ rows → read ≡ rows → heard ≡ cs
    → ((i : ℕ) (d : Row) → i < length before → get_or new i d ≡ row_changed i cs (get_or before i d))
    → drop (length before) new ≡ fresh_rows cs → length before ≤ length new → left ≡ stay new gone
    → (stays ≡ true → (mark ≡ true → AreRising (keys_of read)) → KeepsRise (keys_of read) (map change_is heard))
    → (mark ≡ true → AreRising (keys_of rows)) → stays ≡ true → AreRising (keys_of left)
applied_rises rows before read new left gone cs heard mark stays is_before is_read is_heard changed fresh le is_left keep known told =
    let first : KeepsRise (keys_of read) (map change_is heard) =
    keep told (λ m. subst (λ (l : List Row). AreRising (keys_of l)) (sym is_read) (known m)) in
    let second = subst (λ (l : List Row). KeepsRise (keys_of l) (map change_is heard)) (is_read ∙ sym is_before) first in
    let third = subst (λ (l : List ListChange). KeepsRise (keys_of before) (map change_is l)) is_heard second in
    subst (λ (l : List Row). AreRising (keys_of l)) (sym is_left) (stay_rises new gone (written_rises before new cs changed fresh le third))

-- marks of tables: one more, and another one
push_mark : (marks : List Bool) (b : Bool) (t : ℕ) → slice_index_or (marks ++ b ∷ []) t false ≡ true
    → (slice_index_or marks t false ≡ true) ⊎ ((t ≡ length marks) × (b ≡ true))
push_mark [] b zero e = inr (refl, e)
push_mark [] b (suc t) e = absurd cc
push_mark (x ∷ marks) b zero e = inl e
push_mark (x ∷ marks) b (suc t) e = later (push_mark marks b t e)
  where
    later : (slice_index_or marks t false ≡ true) ⊎ ((t ≡ length marks) × (b ≡ true))
        → (slice_index_or marks t false ≡ true) ⊎ ((suc t ≡ suc (length marks)) × (b ≡ true))
    later (inl p) = inl p
    later (inr p) = inr (ap (λ (k : ℕ). suc k) p.0, p.1)

-- the first cells of a table that is marked rise
pub rises_at : (tables : List Table) (marks : List Bool) (t : ℕ) → Rises tables marks → slice_index_or marks t false ≡ true
    → AreRising (keys_of (rows_at tables t))
rises_at tables marks t h e k later le lt = in_order _ _ (h t k later e le (let n = keys_length (rows_at tables t) in omega arith))
  where
    in_order : (first second : Datum) → AreOrdered first second → AreInOrder first second
    in_order NoValue second w = absurd w
    in_order (Whole low) NoValue w = absurd w
    in_order (Whole low) (Whole high) w = record { low = low; high = high; first_is = refl; second_is = refl; fits = w.0; order = w.1 }
    in_order (Whole low) (Chars t) w = absurd w
    in_order (Whole low) (Logic b) w = absurd w
    in_order (Chars t) second w = absurd w
    in_order (Logic b) second w = absurd w

other_default : (marks : List Bool) (t : ℕ) (d e : Bool) → t < length marks → get_or marks t d ≡ get_or marks t e
other_default [] t d e lt = absurd (omega arith)
other_default (b ∷ marks) zero d e lt = refl
other_default (b ∷ marks) (suc t) d e lt = other_default marks t d e (omega arith)

pub marked_rise : (tables : List Table) (marks : List Bool) (t : ℕ) (x : Table) (b : Bool) → slice_get tables t ≡ Some x
    → length marks ≡ length tables → b ≡ get_or marks t b → b ≡ true → Rises tables marks → AreRising (keys_of x.rows.items)
marked_rise tables marks t x b is many here mark h =
    let lt = slice_get_within tables t x is in
    let told : slice_index_or marks t false ≡ true = other_default marks t false b (omega arith) ∙ sym here ∙ mark in
    subst (λ (l : List Row). AreRising (keys_of l)) (ap listed_rows is) (rises_at tables marks t h told)

ordered : (first second : Datum) → AreInOrder first second → AreOrdered first second
ordered first second w = rw (w.first_is, w.second_is) (w.fits, w.order)

-- the cells of a table as its mark says
abbrev pub MarkedSo : Bool → List Row → Type 0
MarkedSo b rows = b ≡ true → AreRising (keys_of rows)

at_rows : (rows : List Row) (k later : ℕ) → AreRising (keys_of rows) → k ≤ later → later < length rows
    → AreOrdered (cell (keys_of rows) k) (cell (keys_of rows) later)
at_rows rows k later h le lt = ordered _ _ (h k later le (let n = keys_length rows in omega arith))

pub rises_pushed : (tables : List Table) (marks : List Bool) (b : Bool) → MarkedSo b (rows_at tables (length marks)) → Rises tables marks
    → Rises tables (marks ++ b ∷ [])
rises_pushed tables marks b here h t k later e le lt = tell (push_mark marks b t e)
  where
    tell : (slice_index_or marks t false ≡ true) ⊎ ((t ≡ length marks) × (b ≡ true))
        → AreOrdered (cell (keys_of (rows_at tables t)) k) (cell (keys_of (rows_at tables t)) later)
    tell (inl p) = h t k later p le lt
    tell (inr p) = at_rows (rows_at tables t) k later (subst (λ (i : ℕ). AreRising (keys_of (rows_at tables i))) (sym p.0) (here p.1)) le lt

set_mark : (marks : List Bool) (t : ℕ) (b : Bool) → slice_index_or (slice_set marks t b) t false ≡ true → b ≡ true
set_mark [] t b e = absurd cc
set_mark (x ∷ marks) zero b e = e
set_mark (x ∷ marks) (suc t) b e = set_mark marks t b e

other_mark : (marks : List Bool) (t q : ℕ) (b : Bool) → q ≢ t → slice_index_or (slice_set marks t b) q false ≡ slice_index_or marks q false
other_mark marks t q b ne = search rules

pub rises_set : (tables : List Table) (marks : List Bool) (t : ℕ) (b : Bool) (x y : Table) → slice_get tables t ≡ Some x
    → MarkedSo b y.rows.items → Rises tables marks → Rises (slice_set tables t y) (slice_set marks t b)
rises_set tables marks t b x y is here h q k later e le lt = tell (eqb_tells q t)
  where
    same : slice_get (slice_set tables t y) t ≡ Some y
    same = set_there tables t x y is

    tell : ((eqb q t ≡ true) × (q ≡ t)) ⊎ ((eqb q t ≡ false) × (q ≢ t))
        → AreOrdered (cell (keys_of (rows_at (slice_set tables t y) q)) k) (cell (keys_of (rows_at (slice_set tables t y) q)) later)
    tell (inl p) =
        let rows : rows_at (slice_set tables t y) q ≡ y.rows.items = ap (rows_at (slice_set tables t y)) p.1 ∙ ap listed_rows same in
        let marked = subst (λ (i : ℕ). slice_index_or (slice_set marks t b) i false ≡ true) p.1 e in
        at_rows (rows_at (slice_set tables t y) q) k later
        (subst (λ (l : List Row). AreRising (keys_of l)) (sym rows) (here (set_mark marks t b marked))) le lt
    tell (inr p) =
        let rows : rows_at (slice_set tables t y) q ≡ rows_at tables q = ap listed_rows (set_other tables t q y p.1) in
        rw rows (h q k later (sym (other_mark marks t q b p.1) ∙ e) le (rw rows at lt))
