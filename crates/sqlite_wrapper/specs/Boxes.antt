-- What a SQLite source shows: its bound tables, its scans, and the rows that are in its database.
use Rattle.std.specs.Prelude.{
  ◌≡◌,
  ◌≢◌,
  ℕ,
  ℤ,
  pos,
  ◌+ℤ◌,
  ◌-ℤ◌,
  ◌-◌,
  Bool,
  true,
  false,
  not,
  ◌&&◌,
  List,
  [],
  ◌∷◌,
  ◌++◌,
  map,
  drop,
  Option,
  Some,
  None,
  option_map,
  slice_index_or,
  nat_eq,
  nat_lt,
  int_le,
  FitsSigned,
  if◌then◌else◌,
}
use Rattle.std.specs.Ordering.{nat_cmp}
use Rattle.std.specs.FinMap as finmap
use Rattle.std.specs.BTreeMap as tree
use Rattle.std.specs.BTreeMap.{BTreeMap}
use Rattle.std.specs.Int.{w64}
use borrow.Author.Differences.{up, down}
use Rattle.sqlite.specs.Effect.{Database}
use Rattle.sqlite.specs.Order.{Row as SqlRow}
use Rattle.sqlite_tables.specs.Prelude.{
  range_of,
  entries_of,
  rows_of,
  entry_of,
  behind,
  Layout,
  kinds_in,
  layout_at,
  layout_count,
  place_of,
  places,
  row_in,
}
use Rattle.wrapper_parts.specs.Ranges.{has_key, only_key_tests, plain_is_allowed}
use Rattle.wrapper_parts.specs.declared.ranges.KeyRange.{KeyRange}
use Rattle.med_value.specs.Datum.{Whole, Tuple, datum}
use Rattle.fdw_api.specs.Prelude.{
  KeyForm,
  Spec,
  first_of,
  spec_of,
  TableRow,
  GivenRow,
  given_row,
  meets_exact,
  Entry,
  Holding,
  Known,
  BoxTable,
  Scan,
  Ledger,
  Content,
  BoxState,
  whole_asks_rest,
  key_form,
}
use Rattle.fdw_api.specs.declared.wishes.OrderKey.{OrderKey}
use Rattle.sqlite_wrapper.specs.declared.scans.KeyScan.{KeyScan}
use Rattle.wrapper_parts.specs.declared.changes.StagedWrite.{StagedWrite}
use Rattle.sqlite_writes.specs.Kinds.{no_line, by_key, sqlite_refusals}
use Rattle.sqlite_wrapper.specs.Kinds.{sqlite_image, sqlite_kind}
use Rattle.wrapper_parts.specs.Staged.{write_is}

abbrev pub entry_at : Database → Option ℕ → Option Entry
entry_at db None = None
entry_at db (Some t) = entry_of db (layout_at t)

-- the order that is empty, or the key ascending: rows come so anyway, and no key is NULL. The key is the first column of each layout
abbrev pub is_by_key : List KeyForm → Bool
is_by_key [] = true
is_by_key (k ∷ []) = nat_eq k.column 0 && not k.descending
is_by_key (k ∷ l ∷ ks) = false

-- a scan of a bound table takes over tests of the key alone, gives whole rows, and promises no other order than that of the key
abbrev pub allows : Spec → Bool
allows spec = not spec.narrow && (is_by_key spec.order && only_key_tests spec.offered spec.answers)

-- such a scan of a table of one of the layouts
abbrev pub is_allowed : Scan → Bool
is_allowed z = nat_lt z.table layout_count && allows z.spec

abbrev pub bound_of : ℕ → BoxTable
bound_of t = record {
  remote = (layout_at t).name;
  kinds = kinds_in (layout_at t);
  allows = allows;
  allows_plain = λ wanted offered. plain_is_allowed offered;
  allows_whole = λ spec allowed. whole_asks_rest spec.narrow (is_by_key spec.order && only_key_tests spec.offered spec.answers) allowed;
  line = no_line;
  image = sqlite_image (kinds_in (layout_at t));
  arrangement = by_key;
  refuses = sqlite_refusals;
}

abbrev pub marked_bound : Bool → ℕ → Option BoxTable
marked_bound true t = Some (bound_of t)
marked_bound false t = None

-- the least key that may come yet, one above the greatest where none may
abbrev pub lowest : KeyScan → ℤ
lowest s = if s.open then s.low else s.high +ℤ pos 1

-- how many integers there are from one to another
abbrev pub from_to : ℤ → ℤ → ℕ
from_to low high = up (high +ℤ pos 1 -ℤ low) - down (high +ℤ pos 1 -ℤ low)

-- a scan with what is promised of its rows
abbrev pub promised : Spec → List OrderKey → Option ℕ → Spec
promised spec order limit = record spec { order = map key_form order; limit = limit }

abbrev pub asked_of : KeyScan → Spec
asked_of s = promised (spec_of s.spec) s.order.items s.limit

abbrev pub scan_is : KeyScan → Scan
scan_is s = record {
  table = s.table;
  kinds = kinds_in (layout_at s.table);
  spec = asked_of s;
  params = map datum s.params.items;
  left = from_to (lowest s) s.high;
  broken = s.broken;
}

-- the rows of the page that were not given yet
abbrev pub unread : KeyScan → List SqlRow
unread s = drop s.at s.page.items

-- the rows that a scan has still to give: those of its page, and after a full page those of the keys after it
abbrev pub to_come : List SqlRow → KeyScan → List SqlRow
to_come entries s = unread s ++ (if s.full then range_of (places (layout_at s.table)) (behind (lowest s) (unread s)) s.high entries
    else [])

abbrev pub given_of : Spec → Layout → SqlRow → GivenRow
given_of spec l r = given_row spec (row_in l r)

abbrev pub scan_rows : Database → Option KeyScan → List GivenRow
scan_rows db None = []
-- no more than there is room for, where a limit is promised
scan_rows db (Some s) = first_of s.room (map (given_of (asked_of s) (layout_at s.table)) (to_come (entries_of db (layout_at s.table)) s))

abbrev pub mapped : {X Y : Type 0} → (X → Y) → List (ℕ × X) → finmap.FinMap nat_cmp Y
mapped f es = finmap.from_entries (map (λ e. (e.0, f e.1)) es)

-- at this number is `w`, and what is at another is as before
abbrev pub Sets : {X : Type 0} → BTreeMap ℕ X → BTreeMap ℕ X → ℕ → Option X → Type 0
Sets old new number w = (tree.get nat_cmp new number ≡ w) × ((q : ℕ) → q ≢ number → tree.get nat_cmp new q ≡ tree.get nat_cmp old q)

abbrev pub sqlite_ledger : List Bool → BTreeMap ℕ KeyScan → Option StagedWrite → ℕ → ℕ → ℕ → Ledger
sqlite_ledger bound scans staged next pulled faults = record {
  tables = λ t. marked_bound (slice_index_or bound t false) t;
  live = mapped scan_is scans.entries;
  staged = option_map write_is staged;
  next = next;
  pulled = pulled;
  faults = faults;
}

-- what is under a remote name: a table of the database, or nothing
abbrev pub held_in : Database → List ℕ → Holding
held_in db remote = Known (entry_at db (place_of remote))

-- the rows of a table by its number, where a layout has it
abbrev pub rows_at : Database → ℕ → List TableRow
rows_at db t = if nat_lt t layout_count then rows_of db (layout_at t) else []

abbrev pub sqlite_content : Database → BTreeMap ℕ KeyScan → Content
sqlite_content db scans = record {
  holdings = held_in db;
  rows = rows_at db;
  coming = λ q. scan_rows db (tree.get nat_cmp scans q);
}

-- a refused call uses no ticket number up
abbrev pub sqlite_state : Bool → Database → List Bool → BTreeMap ℕ KeyScan → Option StagedWrite → ℕ → ℕ → ℕ → BoxState
sqlite_state honest db bound scans staged next pulled faults = record {
  nature = record { kind = sqlite_kind; honest = honest; skips = false; promises = true };
  ledger = sqlite_ledger bound scans staged next pulled faults;
  content = sqlite_content db scans;
}

-- a scan that has just begun over a range of keys
pub record IsNewScan (s : KeyScan) (t : ℕ) (spec : Spec) (params : Tuple) (r : KeyRange) : Type 0 where
  pub table : s.table ≡ t
  pub spec_is : asked_of s ≡ spec
  pub room : s.room ≡ s.limit
  pub params_are : map datum s.params.items ≡ params
  pub low : s.low ≡ r.low
  pub high : s.high ≡ r.high
  pub open_is : s.open ≡ (r.open && int_le r.low r.high)
  pub no_page : s.page.items ≡ []
  pub at_start : s.at ≡ 0
  pub full : s.full ≡ true
  pub no_lookup : s.lookup ≡ None
  pub whole : s.broken ≡ false

-- a scan that has just begun: its range has just the keys of which all restrictions answered Exact are true
pub record IsBegun (s : KeyScan) (t : ℕ) (spec : Spec) (params : Tuple) : Type 0 where
  pub range : KeyRange
  pub new : IsNewScan s t spec params range
  pub low_fits : FitsSigned w64 range.low
  pub high_fits : FitsSigned w64 range.high
  pub keys : (k : ℤ) (rest : Tuple) → FitsSigned w64 k → has_key range k ≡ meets_exact spec.offered spec.answers params (Whole k ∷ rest)
