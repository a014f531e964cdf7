-- Which page a scan asks for, and what it is after a row.
use Rattle.std.specs.Prelude.{
  ◌≡◌,
  ◌⊎◌,
  ◌-◌,
  ◌<◌,
  ◌≤ℤ◌,
  ℕ,
  List,
  [],
  ◌∷◌,
  drop,
  ℤ,
  pos,
  ◌+ℤ◌,
  ◌+◌,
  Bool,
  true,
  false,
  not,
  ◌||◌,
  length,
  Option,
  Some,
  None,
  option_map,
  nat_eq,
  if◌then◌else◌,
  nat_lt,
  int_lt,
  int_le,
  ◌&&◌,
  slice_get,
}
use Rattle.sqlite.specs.Order.{Row as SqlRow}
use Rattle.med_value.specs.Datum.{tuple}
use Rattle.fdw_api.specs.Prelude.{spec_of, shown_fits, row_fits, row_of}
use Rattle.sqlite_tables.specs.Prelude.{kinds_in, layout_at, key_in, page_cells, is_row}
use Rattle.sqlite_wrapper.specs.Boxes.{scan_is, unread, to_come, given_of}
use Rattle.sqlite_wrapper.specs.declared.rows.GivenNext.{GivenNext}
use Rattle.sqlite_wrapper.specs.declared.scans.KeyScan.{KeyScan}
use Rattle.sqlite_wrapper.specs.declared.scans.PageWanted.{PageWanted}

-- no row may come any more, as all came that a limit lets come
abbrev pub is_spent : Option ℕ → Bool
is_spent None = false
is_spent (Some n) = nat_eq n 0

-- the keys that may come yet, where all rows of the last page were given and one may follow
abbrev pub wanted_by : KeyScan → Option PageWanted
wanted_by s =
    if is_spent s.room || (nat_lt s.at (length s.page.items) || (not s.full || not s.open)) then None
    else Some (record { table = s.table; low = s.low; high = s.high })

-- after a row of this key; nothing may come after the greatest
abbrev pub passed : KeyScan → ℤ → KeyScan
passed s key =
    if int_lt key s.high then record s { at = s.at + 1; room = option_map (λ n. n - 1) s.room; low = key +ℤ pos 1 }
    else record s { at = s.at + 1; room = option_map (λ n. n - 1) s.room; «open» = false }

-- no page is wanted any more; the rows that a scan has still to give are the same, and so is all that it shows but them
pub record Turns (honest : Bool) (entries : List SqlRow) (old new : KeyScan) : Type 0 where
  pub shows : scan_is new ≡ scan_is old
  pub room : new.room ≡ old.room
  pub keys : (new.low ≡ old.low) × (new.high ≡ old.high) × (new.«open» ≡ old.«open»)
  pub lookup : new.lookup ≡ old.lookup
  pub rows : honest ≡ true → to_come entries new ≡ to_come entries old
  pub read : wanted_by new ≡ None

-- whether a row of a page is one of its table's types, of a key that may come
abbrev pub may_be_next : KeyScan → SqlRow → Bool
may_be_next s r =
    is_row (layout_at s.table) r && row_fits (kinds_in (layout_at s.table)) (page_cells (layout_at s.table) r)
    && s.«open» && int_le s.low (key_in r) && int_le (key_in r) s.high

-- the next row of the page, where it has one, may not come
abbrev pub IsStuck : KeyScan → Type 0
IsStuck s = (r : SqlRow) → slice_get s.page.items s.at ≡ Some r → may_be_next s r ≡ false

-- the next row of the page, of a key that may come, as the scan gives it; none where no row may come any more, or the page has none
abbrev pub IsNext : KeyScan → Option GivenNext → Type 0
IsNext s None = (is_spent s.room ≡ true) ⊎ (unread s ≡ [])
IsNext s (Some g) =
    (is_spent s.room ≡ false) × (s.at < length s.page.items) × (s.«open» ≡ true) × (s.low ≤ℤ g.key) × (g.key ≤ℤ s.high)
    × ((r : SqlRow) × (unread s ≡ r ∷ drop (s.at + 1) s.page.items) × (key_in r ≡ g.key)
    × (row_of g.row ≡ given_of (spec_of s.spec) (layout_at s.table) r))
    × (shown_fits (kinds_in (layout_at s.table)) (spec_of s.spec) (tuple g.row.cells) ≡ true)
