-- Scans that are begun again and look for a parameter.
use Rattle.std.specs.Prelude.{◌≡◌, ◌⊎◌, ℕ, Bool, true, false, List, [], map, Some, None}
use Rattle.std.specs.Ordering.{nat_cmp}
use Rattle.std.specs.BTreeMap as tree
use Rattle.std.specs.BTreeMap.{BTreeMap}
use Rattle.sqlite.specs.Effect.{Database}
use Rattle.sqlite.specs.Order.{Row as SqlRow}
use Rattle.med_value.specs.Datum.{datum, cell}
use Rattle.fdw_api.specs.Scan.{spec_of}
use Rattle.wrapper_parts.specs.Scans.{SoughtForm, sought}
use Rattle.sqlite_tables.specs.Prelude.{Layout, layout_at, row_in, least, greatest, entries_of, IsLookup, rows_with}
use Rattle.sqlite_tables.specs.declared.reading.Lookup.{Lookup}
use Rattle.sqlite_wrapper.specs.declared.scans.KeyScan.{KeyScan}
use Rattle.sqlite_wrapper.specs.Boxes.{scan_is}

-- a scan's lookup, if it has one, is of its table
abbrev pub Looks : Database → KeyScan → Type 0
Looks db s = (x : Lookup) → s.lookup ≡ Some x → IsLookup (layout_at s.table) (entries_of db (layout_at s.table)) x

abbrev pub AllLook : Database → BTreeMap ℕ KeyScan → Type 0
AllLook db scans = (k : ℕ) (s : KeyScan) → tree.get nat_cmp scans k ≡ Some s → Looks db s

-- a scan is asked for all keys, and no order and no limit is promised of its rows
pub record IsFree (s : KeyScan) : Type 0 where
  pub opened : s.«open» ≡ true
  pub from : s.low ≡ least
  pub to : s.high ≡ greatest
  pub no_order : s.order.items ≡ []
  pub no_limit : s.limit ≡ None

-- such a scan looks for this
pub record LooksFor (s : KeyScan) (form : SoughtForm) : Type 0 where
  pub is : sought (spec_of s.spec).offered ≡ Some form
  pub free : IsFree s

-- a scan that has just begun of a table of this layout is given the rows that have what it looks for as its only page
pub record IsFilled (l : Layout) (entries : List SqlRow) (old new : KeyScan) : Type 0 where
  pub form : SoughtForm
  pub looks : LooksFor old form
  pub is : new ≡ record old { page = new.page; full = false; lookup = new.lookup }
  pub page_is : map (row_in l) new.page.items
      ≡ rows_with l form.column (cell (map datum old.params.items) form.parameter) entries

-- a scan that has just begun of a table of this layout, with a lookup of its rows: it is so filled, or else as it was
pub record IsAnswered (honest : Bool) (l : Layout) (entries : List SqlRow) (old new : KeyScan) : Type 0 where
  pub shows : scan_is new ≡ scan_is old
  pub looks : honest ≡ true → (x : Lookup) → new.lookup ≡ Some x → IsLookup l entries x
  pub rows : honest ≡ true → (new ≡ record old { lookup = new.lookup }) ⊎ IsFilled l entries old new
