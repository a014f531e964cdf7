-- What a list source shows: its tables by place, and its scans.
use Rattle.std.specs.Prelude.{◌≡◌, ◌<◌, ◌≤◌, ◌+◌, ◌-◌, ◌^◌, ℕ, Bool, true, false, List, [], ◌∷◌, map, filter, drop, length, Option, Some, None, slice_get, slice_index_or, option_map, nat_eq, IsPermutation, IsSorted}
use Rattle.std.specs.Ordering.{nat_cmp, on, then_cmp}
use Rattle.std.specs.FinMap as finmap
use Rattle.std.specs.BTreeMap as tree
use Rattle.std.specs.BTreeMap.{BTreeMap}
use Rattle.std.specs.String.{string_bytes}
use Rattle.std.specs.declared.cmp.Ordering.{Ordering}
use Rattle.std.specs.declared.cmp.Ordering.TheVariants.{Equal}
use Rattle.med_value.specs.Prelude.{Datum, Tuple, datum, tuple, cell, key_cmp}
use Rattle.med_value.specs.declared.value.Row.{Row}
use Rattle.fdw_api.specs.Prelude.{Spec, KeyForm, spec_of, TableRow, GivenRow, given_row, first_of, row_cmp, key_form, Entry, Stored, Known, as_they_come, Nature, BoxTable, Scan, Staging, Ledger, Content, BoxState, row_of, row_of_change_fits}
use Rattle.med_value.specs.declared.value.ColType.{ColType}
use Rattle.std.specs.List.{list_all}
use Rattle.wrapper_parts.specs.declared.sought.SoughtIndex.{SoughtIndex}
use Rattle.wrapper_parts.specs.Scans.{is_taken, rows_taken, rows_at_places as rows_of_places, Serves, Stands}
use Rattle.list_wrapper.specs.declared.held_tables.Table.{Table}
use Rattle.list_wrapper.specs.declared.scans.ListScan.{ListScan}
use Rattle.list_wrapper.specs.Ordered.{AreOrdered, ordered_once}
use Rattle.list_wrapper.specs.declared.spans.Span.{Span}
use Rattle.list_wrapper.specs.declared.scans.Step.{Step}
use Rattle.list_wrapper.specs.declared.scans.Walk.{Walk}
use Rattle.list_wrapper.specs.declared.scans.Walk.TheVariants.{InTurn, Within, ByIndex, ByKeys}
use Rattle.list_wrapper.specs.declared.changes.ListWrite.{ListWrite}
use Rattle.list_wrapper.specs.Lists.{Listed, entry_of, list_kind, list_image, list_refusals, no_line}
use Rattle.list_wrapper.specs.Changes.{write_is}

-- rows with their places as ids
abbrev pub numbered : ℕ → List Row → List TableRow
numbered n [] = []
numbered n (r ∷ rs) = record { id = n; cells = tuple r; origin = [] } ∷ numbered (n + 1) rs

-- the first cells of rows
abbrev pub keys_of : List Row → List Datum
keys_of rows = map (λ r. cell (tuple r) 0) rows

-- what a scan was asked for, with what is promised of it
abbrev pub spec_is : ListScan → Spec
spec_is s = record (spec_of s.spec) { order = map key_form s.order.items; limit = s.limit }

abbrev pub params_of : ListScan → Tuple
params_of s = map datum s.params.items

-- of a table's rows from a place on, in list order, those that a scan takes: they meet what was answered Exact, and have what it looks for
abbrev pub left_in_turn : Spec → Tuple → List TableRow → ℕ → List TableRow
left_in_turn spec params rows at = filter (is_taken spec params) (drop at rows)

-- the places of the rows that a scan takes, in list order
abbrev pub places_taken : Spec → Tuple → List TableRow → List ℕ
places_taken spec params rows = map (λ r. r.id) (rows_taken spec params rows)

-- the rows at these places, from the at-th place on
abbrev pub left_by_keys : List ℕ → List TableRow → ℕ → List TableRow
left_by_keys places rows at = rows_of_places (drop at places) rows

-- what of a table's rows a scan that goes by this walk takes and has not passed yet
abbrev pub rows_ahead : Spec → Tuple → List TableRow → Walk → ℕ → List TableRow
rows_ahead spec params rows InTurn at = left_in_turn spec params rows at
rows_ahead spec params rows (Within span) at = left_in_turn spec params rows at
rows_ahead spec params rows (ByIndex x) at = left_in_turn spec params rows at
rows_ahead spec params rows (ByKeys places) at = left_by_keys places.items rows at

-- the order of two rows' cells by these keys (SQL:2016, <sort specification list>): the first key that tells them apart decides
abbrev pub cells_cmp : List KeyForm → Tuple → Tuple → Ordering
cells_cmp [] = λ a b. Equal
cells_cmp (k ∷ ks) = then_cmp (on (λ c. cell c k.column) (key_cmp k.descending k.nulls_first)) (cells_cmp ks)

-- a scan takes no row before a first place, and none from an end on
abbrev pub Spans : Spec → Tuple → List TableRow → ℕ → ℕ → Type 0
Spans spec params rows first end =
    ((k : ℕ) (r : TableRow) → k < first → slice_get rows k ≡ Some r → is_taken spec params r ≡ false)
    × ((k : ℕ) (r : TableRow) → end ≤ k → slice_get rows k ≡ Some r → is_taken spec params r ≡ false)
    × (end ≤ length rows)

-- a walk within places passes over no row that its scan takes
abbrev pub Bounds : Spec → Tuple → List TableRow → Walk → Type 0
Bounds spec params rows walk = (span : Span) → walk ≡ Within span → Spans spec params rows span.first span.end

-- a walk is in list order without an index, over all places or within those over which its scan has to go
abbrev pub Turns : Spec → Tuple → List TableRow → Walk → Type 0
Turns spec params rows InTurn = Unit {0}
Turns spec params rows (Within span) = Spans spec params rows span.first span.end
Turns spec params rows (ByIndex x) = ⊥
Turns spec params rows (ByKeys places) = ⊥

-- a scan that begins may go by a walk: it has all rows that the scan takes, in an order that the promised keys allow
pub record Arranges (spec : Spec) (params : Tuple) (rows : List TableRow) (walk : Walk) : Type 0 where
  pub same : IsPermutation (rows_taken spec params rows) (rows_ahead spec params rows walk 0)
  pub sorted : IsSorted (row_cmp spec.order) (rows_ahead spec params rows walk 0)
  pub bounds : Bounds spec params rows walk

-- what a scan has still to give: those, each as the scan shows it, and no more of them than may still come
abbrev pub rows_to_come : Spec → Tuple → List TableRow → Walk → ℕ → Option ℕ → List GivenRow
rows_to_come spec params rows walk at more = first_of more (map (given_row spec) (rows_ahead spec params rows walk at))

-- no more may come, and how many may once a row is given
abbrev pub is_spent : Option ℕ → Bool
is_spent None = false
is_spent (Some n) = nat_eq n 0

abbrev pub one_less : Option ℕ → Option ℕ
one_less None = None
one_less (Some n) = Some (n - 1)

-- the next row of a scan that stands at a place, where these rows are left at each place: the first of them, if one more may come, and the
-- scan goes on from a later place; None where none is left
abbrev pub NextOf : Spec → (ℕ → List TableRow) → ℕ → Option ℕ → Option Step → Type 0
NextOf spec left at more None = first_of more (map (given_row spec) (left at)) ≡ []
NextOf spec left at more (Some step) =
    (at < step.after) × (step.after < 2 ^ 64)
    × (first_of more (map (given_row spec) (left at)) ≡ row_of step.row ∷ first_of (one_less more) (map (given_row spec) (left step.after)))

abbrev pub NextIs : Spec → Tuple → List TableRow → Walk → ℕ → Option ℕ → Option Step → Type 0
NextIs spec params rows walk = NextOf spec (rows_ahead spec params rows walk)

-- the index by which a scan goes
abbrev pub index_of : Walk → Option SoughtIndex
index_of InTurn = None
index_of (Within span) = None
index_of (ByIndex x) = Some x
index_of (ByKeys places) = None

abbrev pub index_in : Option Walk → Option SoughtIndex
index_in None = None
index_in (Some walk) = index_of walk

-- a scan that is begun again goes on a new walk, if there is one
abbrev pub newer : Option Walk → Walk → Walk
newer (Some walk) old = walk
newer None old = old

-- a scan goes from a place to another: it takes no row between them, and can go on behind the other
pub record Moves (spec : Spec) (params : Tuple) (rows : List TableRow) (index : Option SoughtIndex) (at to : ℕ) : Type 0 where
  pub past : at ≤ to
  pub same : left_in_turn spec params rows at ≡ left_in_turn spec params rows to
  pub on : to < length rows → Stands spec params rows (to + 1) index

-- the index of a scan is of its table's rows, it stands where its index goes on, and no row that it takes is outside the places of its walk
abbrev pub ScanFits : List Row → ListScan → Type 0
ScanFits rows s =
    Serves (spec_is s) (numbered 0 rows) (index_of s.walk) × Stands (spec_is s) (params_of s) (numbered 0 rows) s.at (index_of s.walk)
    × Bounds (spec_is s) (params_of s) (numbered 0 rows) s.walk

-- its index goes on behind a row that it gives
abbrev pub StandsAfter : List Row → ListScan → Option Step → Type 0
StandsAfter rows s None = Unit {0}
StandsAfter rows s (Some step) = Stands (spec_is s) (params_of s) (numbered 0 rows) step.after (index_of s.walk)

-- a table as it is listed, and as it stands in the source
abbrev pub table_listed : Table → Listed
table_listed t = record { name = string_bytes t.name; kinds = t.kinds.items; rows = map tuple t.rows.items }

abbrev pub stored : Table → Entry
stored t = Stored t.kinds.items (map tuple t.rows.items)

-- the entry of the table at a place
abbrev pub entry_at : List Table → Option ℕ → Option Entry
entry_at tables None = None
entry_at tables (Some t) = option_map stored (slice_get tables t)

-- the rows of the table at a place, none where there is no table
abbrev pub listed_rows : Option Table → List Row
listed_rows None = []
listed_rows (Some t) = t.rows.items

abbrev pub rows_at : List Table → ℕ → List Row
rows_at tables t = listed_rows (slice_get tables t)

-- where a table is marked as rising, the cells of its first column rise
abbrev pub Rises : List Table → List Bool → Type 0
Rises tables rising = (t k later : ℕ) → slice_index_or rising t false ≡ true → k ≤ later → later < length (rows_at tables t)
    → AreOrdered (cell (keys_of (rows_at tables t)) k) (cell (keys_of (rows_at tables t)) later)

-- that they do is a fact
pub rises_once : (tables : List Table) (rising : List Bool) → IsProp (Rises tables rising)
rises_once tables rising = λ f g i t k later marked le lt. ordered_once _ _ (f t k later marked le lt) (g t k later marked le lt) i

abbrev pub ScansFit : List Table → BTreeMap ℕ ListScan → Type 0
ScansFit tables scans = (q : ℕ) (s : ListScan) → tree.get nat_cmp scans q ≡ Some s → ScanFits (rows_at tables s.table) s

-- the types of the columns of the table at a place
abbrev pub listed_kinds : Option Table → List ColType
listed_kinds None = []
listed_kinds (Some t) = t.kinds.items

abbrev pub kinds_at : List Table → ℕ → List ColType
kinds_at tables t = listed_kinds (slice_get tables t)

-- the new rows of a write under way are of its table's types
abbrev pub write_fits : List Table → Option Staging → Bool
write_fits tables None = true
write_fits tables (Some s) = list_all (row_of_change_fits (kinds_at tables s.table)) s.changes

-- a bound table allows every scan: a list takes over whatever it is asked to
abbrev pub bound_of : Table → BoxTable
bound_of t = record {
  remote = string_bytes t.name;
  kinds = t.kinds.items;
  allows = λ spec. true;
  allows_plain = λ wanted offered. mathlib.Core.Path.refl;
  allows_whole = λ spec allowed. mathlib.Core.Path.refl;
  line = no_line;
  image = list_image t.kinds.items;
  arrangement = as_they_come;
  refuses = list_refusals;
}

-- the table at a place, where it is marked as bound
abbrev pub marked_bound : Bool → Option Table → Option BoxTable
marked_bound true o = option_map bound_of o
marked_bound false o = None

-- a scan, without its rows to come
abbrev pub scan_is : List Table → ListScan → Scan
scan_is tables s = record {
  table = s.table;
  kinds = kinds_at tables s.table;
  spec = spec_is s;
  params = params_of s;
  left = 2 ^ 64 - s.at;
  broken = s.broken;
}

abbrev pub mapped : {X Y : Type 0} → (X → Y) → List (ℕ × X) → finmap.FinMap nat_cmp Y
mapped f es = finmap.from_entries (map (λ e. (e.0, f e.1)) es)

abbrev pub scan_rows : List Table → Option ListScan → List GivenRow
scan_rows tables None = []
scan_rows tables (Some s) = rows_to_come (spec_is s) (params_of s) (numbered 0 (rows_at tables s.table)) s.walk s.at s.more

-- a list never fails by its source, so that `faults` stays 0
abbrev pub list_ledger : List Table → List Bool → BTreeMap ℕ ListScan → Option ListWrite → ℕ → ℕ → Ledger
list_ledger tables bound scans staged next pulled = record {
  tables = λ t. marked_bound (slice_index_or bound t false) (slice_get tables t);
  live = mapped (scan_is tables) scans.entries;
  staged = option_map write_is staged;
  next = next;
  pulled = pulled;
  faults = 0;
}

abbrev pub list_content : List Table → BTreeMap ℕ ListScan → Content
list_content tables scans = record {
  holdings = λ remote. Known (entry_of (map table_listed tables) remote);
  rows = λ t. numbered 0 (rows_at tables t);
  coming = λ q. scan_rows tables (tree.get nat_cmp scans q);
}

abbrev pub list_nature : Nature
list_nature = record { kind = list_kind; honest = true; skips = false; promises = true }

abbrev pub list_state : List Table → List Bool → BTreeMap ℕ ListScan → Option ListWrite → ℕ → ℕ → BoxState
list_state tables bound scans staged next pulled = record {
  nature = list_nature;
  ledger = list_ledger tables bound scans staged next pulled;
  content = list_content tables scans;
}
