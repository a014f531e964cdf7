-- What the end of a write does to a list wrapper.
use Rattle.std.proofs.Common.{◌≡◌, ◌≢◌, ℕ, ◌+◌, ◌<◌, ◌≤◌, ◌⊎◌, Bool, true, false, not, ◌&&◌, nat_lt, List, [], ◌∷◌, Option, Some, None, IsSome, length, map, option_map, slice_get, slice_index_or, slice_set, Result, Ok, Err, OnOk, OnErr, IfOk, IfErr, zero, suc, refl, ap, sym, ◌∙◌, subst, rules, eqb, inl, inr, bytes_eq, Contains}
use Rattle.std.specs.List.{list_all}
use Rattle.std.specs.Ordering.{nat_cmp}
use Rattle.std.specs.String.{string_bytes}
use Rattle.std.specs.BTreeMap as tree
use Rattle.std.specs.BTreeMap.{BTreeMap}
use Rattle.std.proofs.lemmas.Bool.Decides.{eqb_tells}
use lib.Pointwise.{bytes_decides}
use Rattle.med_value.specs.Datum.{Tuple, tuple}
use Rattle.med_value.specs.declared.value.Row.{Row}
use Rattle.fdw_api.specs.Prelude.{Entry, Held, held, Known, Stored, Change, all_fit, BoxTable, BoxState, Scan, Staging, row_fits, TableRow, GivenRow, NoScan, faults_after, CanClose, Closes, CloseCause, RefusesClose, row_of_change_fits, rows_after}
use Rattle.med_value.specs.declared.value.ColType.{ColType}
use Rattle.med_value.specs.declared.cause.Cause.{Cause}
use Rattle.med_value.specs.declared.cause.Cause.TheVariants.{TooLarge}
use Rattle.fdw_api.specs.declared.interface.Fault.{Fault}
use Rattle.fdw_api.specs.declared.interface.Fault.TheVariants.{NoMemory, Source, Refused}
use Rattle.list_wrapper.specs.declared.held_tables.Table.{Table}
use Rattle.list_wrapper.specs.declared.scans.ListScan.{ListScan}
use Rattle.list_wrapper.specs.declared.changes.ListWrite.{ListWrite}
use Rattle.list_wrapper.specs.Lists.{Listed, entry_of, rows_fit, names_differ, no_line, list_refusals}
use Rattle.list_wrapper.specs.Changes.{as_held, change_is, write_is, StandsFor}
use Rattle.list_wrapper.specs.Scans.{table_listed, numbered, rows_at, listed_rows, listed_kinds, kinds_at, stored, bound_of, marked_bound, mapped, list_nature, list_state, scan_rows, scan_is, write_fits, ScanFits, ScansFit}
use Rattle.list_wrapper.proofs.Numbered.{numbered_fit}
use Rattle.list_wrapper.proofs.Maps.{mapped_get}
use Rattle.list_wrapper.proofs.Calls.{rows_fit_at}
use Rattle.list_wrapper.proofs.Tables.{numbered_once, some_inj}

pub held_rows : (n : ℕ) (rs : List Row) → map held (numbered n rs) ≡ map as_held rs
held_rows n [] = refl
held_rows n (r ∷ rs) = ap (λ (l : List Held). as_held r ∷ l) (held_rows (n + 1) rs)

cells_of : (rs : List Row) → map (λ r. r.cells) (map as_held rs) ≡ map tuple rs
cells_of [] = refl
cells_of (r ∷ rs) = ap (λ (l : List Tuple). tuple r ∷ l) (cells_of rs)

pub set_there : (ts : List Table) (t : ℕ) (x y : Table) → slice_get ts t ≡ Some x → slice_get (slice_set ts t y) t ≡ Some y
set_there [] t x y e = search rules
set_there (z ∷ ts) zero x y e = refl
set_there (z ∷ ts) (suc t) x y e = set_there ts t x y e

pub set_other : (ts : List Table) (t q : ℕ) (y : Table) → q ≢ t → slice_get (slice_set ts t y) q ≡ slice_get ts q
set_other [] t q y ne = refl
set_other (z ∷ ts) zero zero y ne = absurd (ne refl)
set_other (z ∷ ts) zero (suc q) y ne = refl
set_other (z ∷ ts) (suc t) zero y ne = refl
set_other (z ∷ ts) (suc t) (suc q) y ne = set_other ts t q y (λ e. ne (ap (λ (k : ℕ). suc k) e))

-- the types at each place stay, and so does what is known of a scan
same_kinds : (ts : List Table) (t q : ℕ) (x y : Table) → slice_get ts t ≡ Some x → y.kinds ≡ x.kinds → kinds_at (slice_set ts t y) q ≡ kinds_at ts q
same_kinds ts t q x y e s = split (eqb_tells q t)
  where
    split : ((eqb q t ≡ true) × (q ≡ t)) ⊎ ((eqb q t ≡ false) × (q ≢ t)) → kinds_at (slice_set ts t y) q ≡ kinds_at ts q
    split (inl w) = rw (w.1, set_there ts t x y e, e, s) refl
    split (inr w) = ap listed_kinds (set_other ts t q y w.1)

same_scan : (ts : List Table) (t : ℕ) (x y : Table) (z : ListScan) → slice_get ts t ≡ Some x → y.kinds ≡ x.kinds → scan_is (slice_set ts t y) z ≡ scan_is ts z
same_scan ts t x y z e s = ap (λ (k : List ColType). record (scan_is ts z) { kinds = k }) (same_kinds ts t z.table x y e s)

-- the rest of a table stays: its name and kinds, so what is bound
same_bound : (ts : List Table) (t q : ℕ) (x y : Table) (b : Bool) → slice_get ts t ≡ Some x → bound_of y ≡ bound_of x → marked_bound b (slice_get (slice_set ts t y) q) ≡ marked_bound b (slice_get ts q)
same_bound ts t q x y b e s = split (eqb_tells q t)
  where
    split : ((eqb q t ≡ true) × (q ≡ t)) ⊎ ((eqb q t ≡ false) × (q ≢ t)) → marked_bound b (slice_get (slice_set ts t y) q) ≡ marked_bound b (slice_get ts q)
    split (inl w) = rw (w.1, set_there ts t x y e, e) (case b)
      where
        case : (b : Bool) → marked_bound b (Some y) ≡ marked_bound b (Some x)
        case true = ap (λ (z : BoxTable). Some z) s
        case false = refl
    split (inr w) = rw (set_other ts t q y w.1) refl

both : (a b : Bool) → (a && b) ≡ true → (a ≡ true) × (b ≡ true)
both true b e = (refl, e)
both false b e = absurd cc

not_true : (a : Bool) → not a ≡ true → a ≡ false
not_true true e = absurd cc
not_true false e = refl

none_there : (t : ℕ) (x : Table) → slice_get [] t ≡ Some x → ⊥
none_there zero x e = cc
none_there (suc t) x e = cc

differs : (a b : List ℕ) → (a ≡ b → ⊥) → bytes_eq a b ≡ false
differs a b ne = go (bytes_eq a b) refl
  where
    go : (f : Bool) → bytes_eq a b ≡ f → bytes_eq a b ≡ false
    go true e = absurd (ne ((bytes_decides a b).0 e))
    go false e = e

same_self : (a : List ℕ) → bytes_eq a a ≡ true
same_self a = (bytes_decides a a).1 refl

-- a later table has another name
later_differs : (n : List ℕ) (ts : List Table) (t : ℕ) (x : Table) → list_all (λ u. not (bytes_eq n u.name)) (map table_listed ts) ≡ true → slice_get ts t ≡ Some x → bytes_eq n (string_bytes x.name) ≡ false
later_differs n [] t x d e = absurd (none_there t x e)
later_differs n (y ∷ ts) zero x d e = subst (λ (w : Table). bytes_eq n (string_bytes w.name) ≡ false) (some_inj y x e) (not_true _ (both (not (bytes_eq n (string_bytes y.name))) _ d).0)
later_differs n (y ∷ ts) (suc t) x d e = later_differs n ts t x (both (not (bytes_eq n (string_bytes y.name))) _ d).1 e

-- under its name stands the table
entry_is : (ts : List Table) (t : ℕ) (x : Table) → names_differ (map table_listed ts) ≡ true → slice_get ts t ≡ Some x → entry_of (map table_listed ts) (string_bytes x.name) ≡ Some (stored x)
entry_is [] t x d e = absurd (none_there t x e)
entry_is (z ∷ ts) zero x d e = subst (λ (w : Table). entry_of (map table_listed (w ∷ ts)) (string_bytes x.name) ≡ Some (stored x)) (sym (some_inj z x e)) (rw (same_self (string_bytes x.name)) refl)
entry_is (z ∷ ts) (suc t) x d e =
    let w = both (list_all (λ u. not (bytes_eq (string_bytes z.name) u.name)) (map table_listed ts)) (names_differ (map table_listed ts)) d in
    rw (later_differs (string_bytes z.name) ts t x w.0 e) (entry_is ts t x w.1 e)

-- under another name stands what stood there
entry_other : (ts : List Table) (t : ℕ) (x y : Table) (name : List ℕ) → slice_get ts t ≡ Some x → y.name ≡ x.name → (name ≡ string_bytes x.name → ⊥) → entry_of (map table_listed (slice_set ts t y)) name ≡ entry_of (map table_listed ts) name
entry_other [] t x y name e s ne = refl
entry_other (z ∷ ts) zero x y name e s ne =
    let dy = differs (string_bytes y.name) name (λ q. ne (sym q ∙ ap string_bytes s)) in
    let dz = differs (string_bytes z.name) name (λ q. ne (sym q ∙ ap (λ (w : Table). string_bytes w.name) (some_inj z x e))) in
    rw (dy, dz) refl
entry_other (z ∷ ts) (suc t) x y name e s ne = rw (entry_other ts t x y name e s ne) refl

all_stay : (n : List ℕ) (ts : List Table) (t : ℕ) (x y : Table) → slice_get ts t ≡ Some x → y.name ≡ x.name → list_all (λ u. not (bytes_eq n u.name)) (map table_listed (slice_set ts t y)) ≡ list_all (λ u. not (bytes_eq n u.name)) (map table_listed ts)
all_stay n [] t x y e s = refl
all_stay n (z ∷ ts) zero x y e s = rw (s, ap (λ (w : Table). w.name) (sym (some_inj z x e))) refl
all_stay n (z ∷ ts) (suc t) x y e s = rw (all_stay n ts t x y e s) refl

-- names differ as before
pub names_stay : (ts : List Table) (t : ℕ) (x y : Table) → slice_get ts t ≡ Some x → y.name ≡ x.name → names_differ (map table_listed (slice_set ts t y)) ≡ names_differ (map table_listed ts)
names_stay [] t x y e s = refl
names_stay (z ∷ ts) zero x y e s = rw (s, ap (λ (w : Table). w.name) (sym (some_inj z x e))) refl
names_stay (z ∷ ts) (suc t) x y e s = rw (all_stay (string_bytes z.name) ts t x y e s, names_stay ts t x y e s) refl

few : (n : ℕ) → n ≤ 1000000 → nat_lt 1000000 n ≡ false
few n le = search rules

few_rows : (x y : Table) (s : ListWrite) (entry : Option Entry) → map as_held y.rows.items ≡ rows_after no_line (numbered 0 x.rows.items) (map change_is s.changes.items) → length y.rows.items ≤ 1000000 → list_refusals.causes entry (numbered 0 x.rows.items) (map change_is s.changes.items) ≡ []
few_rows x y s entry e le = rw (← e, length_map y.rows.items, few (length y.rows.items) le) refl
  where
    length_map : (l : List Row) → length (map as_held l) ≡ length l
    length_map [] = refl
    length_map (r ∷ l) = ap (λ (k : ℕ). suc k) (length_map l)

other_rows : (ts : List Table) (t q : ℕ) (y : Table) → q ≢ t → rows_at (slice_set ts t y) q ≡ rows_at ts q
other_rows ts t q y ne = rw (set_other ts t q y ne) refl

-- a live scan of another table comes to the same rows
same_coming : (ts : List Table) (t : ℕ) (y : Table) (o : Option ListScan) → ((z : ListScan) → o ≡ Some z → z.table ≢ t) → scan_rows (slice_set ts t y) o ≡ scan_rows ts o
same_coming ts t y None ne = refl
same_coming ts t y (Some z) ne = rw (other_rows ts t z.table y (ne z refl)) refl

-- no live scan is of a table that has no scan, so scans fit as before
pub stay_fitting : (ts : List Table) (t : ℕ) (y : Table) (bound : List Bool) (m : BTreeMap ℕ ListScan) (staged : Option ListWrite) (next pulled : ℕ) → NoScan (list_state ts bound m staged next pulled) t → ScansFit ts m → ScansFit (slice_set ts t y) m
stay_fitting ts t y bound m staged next pulled scans old q s e =
    let ne : s.table ≢ t = scans q (scan_is ts s) (mapped_get (scan_is ts) m q ∙ ap (option_map (scan_is ts)) e) in
    subst (λ (rows : List Row). ScanFits rows s) (sym (other_rows ts t s.table y ne)) (old q s e)

pub list_closes : (tables : List Table) (bound : List Bool) (m : BTreeMap ℕ ListScan) (s : ListWrite) (next pulled : ℕ) (x y : Table) → slice_index_or bound s.table false ≡ true → slice_get tables s.table ≡ Some x → names_differ (map table_listed tables) ≡ true → y.name ≡ x.name → y.kinds ≡ x.kinds → map as_held y.rows.items ≡ rows_after no_line (numbered 0 x.rows.items) (map change_is s.changes.items) → length y.rows.items ≤ 1000000 → NoScan (list_state tables bound m (Some s) next pulled) s.table → Closes (list_state tables bound m (Some s) next pulled) true (list_state (slice_set tables s.table y) bound m None next pulled)
list_closes tables bound m s next pulled x y marked is distinct en ek er small scans =
    let there = set_there tables s.table x y is in
    let after : rows_at (slice_set tables s.table y) s.table ≡ y.rows.items = rw there refl in
    let before : rows_at tables s.table ≡ x.rows.items = rw is refl in
    record {
      nature = refl;
      staging = write_is s;
      is_staged = refl;
      ledger =
          ap (λ (f : ListScan → Scan). record (list_state (slice_set tables s.table y) bound m None next pulled).ledger { live = mapped f m.entries }) (λ i z. same_scan tables s.table x y z is ek i)
          ∙ ap (λ (f : ℕ → Option BoxTable). record (list_state tables bound m None next pulled).ledger { tables = f }) (λ i q. same_bound tables s.table q x y (slice_index_or bound q false) is (same en ek) i);
      content = λ honest. record {
        bound = bound_of x;
        is = rw (marked, is) refl;
        entry = entry_of (map table_listed tables) (string_bytes x.name);
        picked = refl;
        no_cause = rw before (few_rows x y s (entry_of (map table_listed tables) (string_bytes x.name)) er small);
        rows = rw (before, after, held_rows 0 y.rows.items, er) refl;
        once = numbered_once 0 (rows_at (slice_set tables s.table y) s.table);
        holdings = written there;
        leaves = record {
          coming = λ q live o. same_coming tables s.table y (tree.get nat_cmp m q) (λ z e. scans q (scan_is tables z) (mapped_get (scan_is tables) m q ∙ ap (option_map (scan_is tables)) e));
          rows = λ u o. ap (numbered 0) (other_rows tables s.table u y o);
          holdings = λ r o. ap Known (entry_other tables s.table x y r is en o);
        };
      };
    }
  where
    same : y.name ≡ x.name → y.kinds ≡ x.kinds → bound_of y ≡ bound_of x
    same a b = rw (a, b) refl

    written : slice_get (slice_set tables s.table y) s.table ≡ Some y → Known (entry_of (map table_listed (slice_set tables s.table y)) (string_bytes x.name)) ≡ Known (Some (Stored x.kinds.items (map (λ r. r.cells) (map held (numbered 0 (rows_at (slice_set tables s.table y) s.table))))))
    written there =
        ap Known (ap (λ (n : List ℕ). entry_of (map table_listed (slice_set tables s.table y)) n) (ap string_bytes (sym en)) ∙ entry_is (slice_set tables s.table y) s.table y (names_stay tables s.table x y is en ∙ distinct) there)
        ∙ rw (there, ek, held_rows 0 y.rows.items, cells_of y.rows.items) refl

pub kept_closes : (tables : List Table) (bound : List Bool) (m : BTreeMap ℕ ListScan) (s : ListWrite) (staged after : Option ListWrite) (keep : Bool) (next pulled : ℕ) (x y : Table) → staged ≡ Some s → after ≡ None → keep ≡ true → slice_index_or bound s.table false ≡ true → slice_get tables s.table ≡ Some x → names_differ (map table_listed tables) ≡ true → y.name ≡ x.name → y.kinds ≡ x.kinds → map as_held y.rows.items ≡ rows_after no_line (numbered 0 x.rows.items) (map change_is s.changes.items) → length y.rows.items ≤ 1000000 → NoScan (list_state tables bound m (Some s) next pulled) s.table → Closes (list_state tables bound m staged next pulled) keep (list_state (slice_set tables s.table y) bound m after next pulled)
kept_closes tables bound m s staged after keep next pulled x y es ea k marked is distinct en ek er small scans = rw (es, ea, k) (list_closes tables bound m s next pulled x y marked is distinct en ek er small scans)

pub marked_there : (f : Bool) (o : Option Table) → IsSome (marked_bound f o) → (f ≡ true) × (x : Table) × (o ≡ Some x)
marked_there false o e = absurd cc
marked_there true None e = absurd cc
marked_there true (Some x) e = (refl, x, refl)

pub staged_there : (tables : List Table) (bound : List Bool) (m : BTreeMap ℕ ListScan) (s : ListWrite) (staged : Option ListWrite) (keep : Bool) (next pulled : ℕ) → staged ≡ Some s → CanClose (list_state tables bound m staged next pulled) keep → (slice_index_or bound s.table false ≡ true) × (x : Table) × (slice_get tables s.table ≡ Some x)
staged_there tables bound m s staged keep next pulled es can =
    let same : can.staging ≡ write_is s = some_inj can.staging (write_is s) (sym can.is_staged ∙ ap (option_map write_is) es) in
    marked_there (slice_index_or bound s.table false) (slice_get tables s.table) (subst (λ (z : Staging). IsSome (marked_bound (slice_index_or bound z.table false) (slice_get tables z.table))) same can.is_bound)

pub staged_scans : (tables : List Table) (bound : List Bool) (m : BTreeMap ℕ ListScan) (s : ListWrite) (staged : Option ListWrite) (keep : Bool) (next pulled : ℕ) → staged ≡ Some s → keep ≡ true → CanClose (list_state tables bound m staged next pulled) keep → NoScan (list_state tables bound m (Some s) next pulled) s.table
staged_scans tables bound m s staged keep next pulled es k can =
    let same : can.staging ≡ write_is s = some_inj can.staging (write_is s) (sym can.is_staged ∙ ap (option_map write_is) es) in
    subst (λ (z : Staging). NoScan (list_state tables bound m (Some s) next pulled) z.table) same (can.no_scan k)

-- a table whose rows stay as they were, whatever room there is for more: nothing changes
same_rows : (ts : List Table) (t q : ℕ) (x y : Table) → slice_get ts t ≡ Some x → y.rows.items ≡ x.rows.items → rows_at (slice_set ts t y) q ≡ rows_at ts q
same_rows ts t q x y e s = split (eqb_tells q t)
  where
    split : ((eqb q t ≡ true) × (q ≡ t)) ⊎ ((eqb q t ≡ false) × (q ≢ t)) → rows_at (slice_set ts t y) q ≡ rows_at ts q
    split (inl w) = rw (w.1, set_there ts t x y e, e, s) refl
    split (inr w) = ap listed_rows (set_other ts t q y w.1)

pub same_listed : (ts : List Table) (t : ℕ) (x y : Table) → slice_get ts t ≡ Some x → y.name ≡ x.name → y.kinds ≡ x.kinds → y.rows.items ≡ x.rows.items → map table_listed (slice_set ts t y) ≡ map table_listed ts
same_listed [] t x y e n k r = refl
same_listed (z ∷ ts) zero x y e n k r = ap (λ (l : Listed). l ∷ map table_listed ts) (rw (n, k, r) (ap table_listed (sym (some_inj z x e))))
same_listed (z ∷ ts) (suc t) x y e n k r = ap (λ (l : List Listed). table_listed z ∷ l) (same_listed ts t x y e n k r)

same_given : (ts : List Table) (t : ℕ) (x y : Table) (o : Option ListScan) → slice_get ts t ≡ Some x → y.rows.items ≡ x.rows.items → scan_rows (slice_set ts t y) o ≡ scan_rows ts o
same_given ts t x y None e s = refl
same_given ts t x y (Some z) e s = rw (same_rows ts t z.table x y e s) refl

-- the state of a source by what is known of its tables
abbrev state_by : (ℕ → Option BoxTable) → (ListScan → Scan) → List Listed → (ℕ → List Row) → (ℕ → List GivenRow) → BTreeMap ℕ ListScan → Option ListWrite → ℕ → ℕ → BoxState
state_by bs sc ls rs gs m staged next pulled = record {
  nature = list_nature;
  ledger = record { tables = bs; live = mapped sc m.entries; staged = option_map write_is staged; next = next; pulled = pulled; faults = 0 };
  content = record { holdings = λ remote. Known (entry_of ls remote); rows = λ t. numbered 0 (rs t); coming = gs };
}

same_state : (ts : List Table) (t : ℕ) (x y : Table) (bound : List Bool) (m : BTreeMap ℕ ListScan) (staged : Option ListWrite) (next pulled : ℕ) → slice_get ts t ≡ Some x → y.name ≡ x.name → y.kinds ≡ x.kinds → y.rows.items ≡ x.rows.items
    → list_state (slice_set ts t y) bound m staged next pulled ≡ list_state ts bound m staged next pulled
same_state ts t x y bound m staged next pulled e n k r =
    let us = slice_set ts t y in
    ap (λ (f : ℕ → Option BoxTable). state_by f (scan_is us) (map table_listed us) (rows_at us) (λ q. scan_rows us (tree.get nat_cmp m q)) m staged next pulled) (λ i q. same_bound ts t q x y (slice_index_or bound q false) e (same n k) i)
    ∙ ap (λ (f : ListScan → Scan). state_by (marks ts) f (map table_listed us) (rows_at us) (λ q. scan_rows us (tree.get nat_cmp m q)) m staged next pulled) (λ i z. same_scan ts t x y z e k i)
    ∙ ap (λ (l : List Listed). state_by (marks ts) (scan_is ts) l (rows_at us) (λ q. scan_rows us (tree.get nat_cmp m q)) m staged next pulled) (same_listed ts t x y e n k r)
    ∙ ap (λ (f : ℕ → List Row). state_by (marks ts) (scan_is ts) (map table_listed ts) f (λ q. scan_rows us (tree.get nat_cmp m q)) m staged next pulled) (λ i q. same_rows ts t q x y e r i)
    ∙ ap (λ (f : ℕ → List GivenRow). state_by (marks ts) (scan_is ts) (map table_listed ts) (rows_at ts) f m staged next pulled) (λ i q. same_given ts t x y (tree.get nat_cmp m q) e r i)
  where
    marks : List Table → ℕ → Option BoxTable
    marks ts q = marked_bound (slice_index_or bound q false) (slice_get ts q)

    same : y.name ≡ x.name → y.kinds ≡ x.kinds → bound_of y ≡ bound_of x
    same a b = rw (a, b) refl

many_rows : (x : Table) (s : ListWrite) (entry : Option Entry) → 1000000 < length (rows_after no_line (numbered 0 x.rows.items) (map change_is s.changes.items)) → list_refusals.causes entry (numbered 0 x.rows.items) (map change_is s.changes.items) ≡ TooLarge ∷ []
many_rows x s entry lt = rw (many (length (rows_after no_line (numbered 0 x.rows.items) (map change_is s.changes.items))) lt) refl
  where
    many : (n : ℕ) → 1000000 < n → nat_lt 1000000 n ≡ true
    many n lt = search rules

-- why a write is refused, as the box says it
close_cause : (tables : List Table) (bound : List Bool) (m : BTreeMap ℕ ListScan) (s : ListWrite) (next pulled : ℕ) (x : Table) (fault : Fault) → slice_get tables s.table ≡ Some x → StandsFor fault (rows_after no_line (numbered 0 x.rows.items) (map change_is s.changes.items)) → CloseCause (list_state tables bound m (Some s) next pulled) (write_is s) fault
close_cause tables bound m s next pulled x NoMemory is why = tt
close_cause tables bound m s next pulled x Source is why = tt
close_cause tables bound m s next pulled x (Refused c) is why =
    rw why.0 (refl, λ honest b at. (entry_of (map table_listed tables) b.remote, refl, in_it (entry_of (map table_listed tables) b.remote) (slice_index_or bound s.table false) (slice_get tables s.table) b at))
  where
    causes : (entry : Option Entry) → list_refusals.causes entry (numbered 0 (rows_at tables s.table)) (map change_is s.changes.items) ≡ TooLarge ∷ []
    causes entry = rw is (many_rows x s entry why.1)

    one : Contains (TooLarge ∷ []) TooLarge
    one = search rules

    in_it : (entry : Option Entry) (f : Bool) (o : Option Table) (b : BoxTable) → marked_bound f o ≡ Some b → Contains (b.refuses.causes entry (numbered 0 (rows_at tables s.table)) (map change_is s.changes.items)) TooLarge
    in_it entry false o b e = absurd cc
    in_it entry true None b e = absurd cc
    in_it entry true (Some z) b e = subst (λ (v : BoxTable). Contains (v.refuses.causes entry (numbered 0 (rows_at tables s.table)) (map change_is s.changes.items)) TooLarge) (some_inj (bound_of z) b e) (subst (λ (l : List Cause). Contains l TooLarge) (sym (causes entry)) one)

no_faults : (fault : Fault) (after : List Held) → StandsFor fault after → 0 ≡ faults_after fault 0
no_faults NoMemory after why = refl
no_faults Source after why = absurd why
no_faults (Refused c) after why = refl

pub list_refuses : (tables : List Table) (bound : List Bool) (m : BTreeMap ℕ ListScan) (s : ListWrite) (staged after : Option ListWrite) (keep : Bool) (next pulled : ℕ) (x y : Table) (fault : Fault) → staged ≡ Some s → after ≡ None → keep ≡ true → slice_get tables s.table ≡ Some x → y.name ≡ x.name → y.kinds ≡ x.kinds → y.rows.items ≡ x.rows.items
    → StandsFor fault (rows_after no_line (numbered 0 x.rows.items) (map change_is s.changes.items)) → RefusesClose (list_state tables bound m staged next pulled) keep fault (list_state (slice_set tables s.table y) bound m after next pulled)
list_refuses tables bound m s staged after keep next pulled x y fault es ea k is en ek er why = rw (es, ea, same_state tables s.table x y bound m None next pulled is en ek er) record {
  kept = k;
  nature = refl;
  staging = write_is s;
  is_staged = refl;
  ledger = ap (λ (n : ℕ). record (list_state tables bound m None next pulled).ledger { faults = n }) (no_faults fault _ why);
  cause = close_cause tables bound m s next pulled x fault is why;
  leaves = λ honest. record { coming = λ q l o. refl; rows = λ t o. refl; holdings = λ r o. refl };
}

-- the rows of a table that a write leaves are of its types
fit_at : (ts : List Table) (t : ℕ) (x : Table) → slice_get ts t ≡ Some x → rows_fit (map table_listed ts) ≡ true → list_all (row_fits x.kinds.items) (map tuple x.rows.items) ≡ true
fit_at ts t x e f = ap (λ (o : Option Table). list_all (row_fits (listed_kinds o)) (map tuple (listed_rows o))) (sym e) ∙ rows_fit_at ts t f

and_true : (a b : Bool) → a ≡ true → b ≡ true → (a && b) ≡ true
and_true a b e f = rw (e, f) refl

-- the types of all tables, where one has other rows that are of its types
set_fits : (ts : List Table) (t : ℕ) (x y : Table) → slice_get ts t ≡ Some x → list_all (row_fits y.kinds.items) (map tuple y.rows.items) ≡ true → rows_fit (map table_listed ts) ≡ true → rows_fit (map table_listed (slice_set ts t y)) ≡ true
set_fits [] t x y e h f = refl
set_fits (z ∷ ts) zero x y e h f = and_true _ _ h (both (list_all (row_fits z.kinds.items) (map tuple z.rows.items)) _ f).1
set_fits (z ∷ ts) (suc t) x y e h f =
    let w = both (list_all (row_fits z.kinds.items) (map tuple z.rows.items)) _ f in
    and_true _ _ w.0 (set_fits ts t x y e h w.1)

line_fits : (kinds : List ColType) (rs : List Row) → list_all (λ (r : Held). row_fits kinds r.cells) (map as_held rs) ≡ list_all (row_fits kinds) (map tuple rs)
line_fits kinds [] = refl
line_fits kinds (r ∷ rs) = ap (λ (b : Bool). row_fits kinds (tuple r) && b) (line_fits kinds rs)

-- and so are the rows that a list has once a write was kept
pub written_fits : (ts : List Table) (s : ListWrite) (staged : Option ListWrite) (x y : Table)
    → ((kinds : List ColType) (line : Tuple → List (List ℕ)) (rows : List TableRow) (changes : List Change) → list_all (row_of_change_fits kinds) changes ≡ true → list_all (λ r. row_fits kinds r.cells) rows ≡ true → all_fit kinds (rows_after line rows changes) ≡ true)
    → staged ≡ Some s → slice_get ts s.table ≡ Some x → y.kinds ≡ x.kinds → rows_fit (map table_listed ts) ≡ true → write_fits ts (option_map write_is staged) ≡ true → map as_held y.rows.items ≡ rows_after no_line (numbered 0 x.rows.items) (map change_is s.changes.items) → rows_fit (map table_listed (slice_set ts s.table y)) ≡ true
written_fits ts s staged x y law es is ek f w er =
    let kinds : kinds_at ts s.table ≡ x.kinds.items = ap listed_kinds is in
    let changes : list_all (row_of_change_fits x.kinds.items) (map change_is s.changes.items) ≡ true =
    ap (λ (k : List ColType). list_all (row_of_change_fits k) (map change_is s.changes.items)) (sym kinds) ∙ ap (λ (o : Option ListWrite). write_fits ts (option_map write_is o)) (sym es) ∙ w in
    let old : list_all (λ (r : TableRow). row_fits x.kinds.items r.cells) (numbered 0 x.rows.items) ≡ true = numbered_fit x.kinds.items 0 x.rows.items ∙ fit_at ts s.table x is f in
    let after : list_all (row_fits x.kinds.items) (map tuple y.rows.items) ≡ true =
    sym (line_fits x.kinds.items y.rows.items) ∙ ap (all_fit x.kinds.items) er ∙ law x.kinds.items no_line (numbered 0 x.rows.items) (map change_is s.changes.items) changes old in
    set_fits ts s.table x y is (rw ek after) f

-- what is known of a call where it succeeds, and where it fails
pub either_way : {T E : Type 0} (A B C : Type 0) (r : Result T E) → OnOk r A → OnErr r B → (A → C) → (B → C) → C
either_way A B C (Ok x) a b f g = f a
either_way A B C (Err e) a b f g = g b

pub where_ok : {T E : Type 0} (A B : Type 0) (C : T → Type 0) (r : Result T E) → OnOk r A → OnOk r B → (A → B → (x : T) → C x) → IfOk r C
where_ok A B C (Ok x) a b f = f a b x
where_ok A B C (Err e) a b f = tt

pub where_err : {T E : Type 0} (A : Type 0) (B C : E → Type 0) (r : Result T E) → OnErr r A → IfErr r B → ((e : E) → A → B e → C e) → IfErr r C
where_err A B C (Ok x) a b f = tt
where_err A B C (Err e) a b f = f e a b
