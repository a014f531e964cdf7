-- How a table is read whole when it is bound: page by page, up to 1,000,000 rows.
use Rattle.std.specs.Prelude.{◌≡◌, ◌-◌, ℕ, ℤ, pos, ◌+ℤ◌, Bool, true, ◌&&◌, List, [], ◌∷◌, ◌++◌, map, length, Option, Some, None}
use Rattle.std.specs.Prelude.{if◌then◌else◌, nat_eq, nat_lt, int_lt}
use Rattle.std.specs.List.{list_all}
use Rattle.sqlite.specs.Order.{Row as SqlRow}
use Rattle.sqlite_looks.specs.Pages.{range_of}
use Rattle.med_value.specs.declared.cause.Cause.{Cause}
use Rattle.fdw_api.specs.Prelude.{row_fits, Column, kinds_of}
use Rattle.med_value.specs.Prelude.{Tuple, row_limit}
use Rattle.sqlite.specs.Effect.{Database}
use Rattle.sqlite_tables.specs.Layouts.{Layout, kinds_in, places}
use Rattle.sqlite_tables.specs.Texts.{page_size}
use Rattle.sqlite_tables.specs.Tables.{entry_of}
use Rattle.sqlite_tables.specs.Readings.{content_causes, sqlite_reading}
use Rattle.sqlite_tables.specs.Cells.{page_cells, key_in, rows_in, greatest}

-- a row is of the columns' types, without U+0000
abbrev pub fits_in : Layout → SqlRow → Bool
fits_in l r = row_fits (kinds_in l) (page_cells l r)

-- the cells of the rows of a table
abbrev pub tuples_in : Layout → List SqlRow → List Tuple
tuples_in l entries = map (λ r. r.cells) (rows_in l entries)

-- the causes that the rows of a table give when it is bound
abbrev pub causes_in : Layout → List SqlRow → List Cause
causes_in l entries =
    content_causes (list_all (row_fits (kinds_in l)) (tuples_in l entries)) (nat_lt row_limit (length (tuples_in l entries)))

-- the causes that a table gives when it is bound with these columns
abbrev pub causes_of : List Column → Database → Layout → List Cause
causes_of columns db l = (sqlite_reading (kinds_of columns) (entry_of db l)).causes

-- the key of the last row
abbrev pub last_key : List SqlRow → Option ℤ
last_key [] = None
last_key (r ∷ []) = Some (key_in r)
last_key (r ∷ s ∷ rs) = last_key (s ∷ rs)

-- where the next page begins: one above the last key of a full page; none follows a page of fewer than 64 rows, or the greatest key
abbrev pub next_after : ℕ → Option ℤ → Option ℤ
next_after count None = None
next_after count (Some key) = if nat_eq count page_size && int_lt key greatest then Some (key +ℤ pos 1) else None

-- the rows from a key on
abbrev pub rows_from : Layout → Option ℤ → List SqlRow → List SqlRow
rows_from l None entries = []
rows_from l (Some low) entries = range_of (places l) low greatest entries

-- from one key up to another, or to the end, this many rows were read, each of the columns' types
pub record IsSeen (l : Layout) (entries : List SqlRow) (low next : Option ℤ) (count : ℕ) : Type 0 where
  pub seen : List SqlRow
  pub parts : rows_from l low entries ≡ seen ++ rows_from l next entries
  pub fit : list_all (fits_in l) seen ≡ true
  pub count_is : length seen ≡ count

-- how many rows may still be read: none where no page follows
abbrev pub rows_to_read : Option ℤ → ℕ → ℕ
rows_to_read None count = 0
rows_to_read (Some low) count = 1000065 - count
