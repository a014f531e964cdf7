-- The rows of a table by the values of one of its columns: what was read of it, and which of its rows are found.
use Rattle.std.specs.Prelude.{◌≡◌, ℕ, ℤ, Bool, List, ◌++◌, map, filter, Option, Some}
use Rattle.sqlite.specs.Order.{Row as SqlRow}
use Rattle.med_value.specs.Datum.{Datum, datum, cell}
use Rattle.fdw_api.specs.Scan.{TableRow}
use Rattle.wrapper_parts.specs.Places.{equals}
use Rattle.wrapper_parts.specs.Indexes.{IsIndexFrom}
use Rattle.wrapper_parts.specs.Scans.{column_cells}
use Rattle.sqlite_looks.specs.Pages.{range_of}
use Rattle.sqlite_tables.specs.Layouts.{Layout, places}
use Rattle.sqlite_tables.specs.Cells.{key_in, page_cells, rows_in, least, greatest}
use Rattle.sqlite_tables.specs.Surveys.{rows_from}
use Rattle.sqlite_tables.specs.declared.reading.Lookup.{Lookup}
use Rattle.sqlite_tables.specs.declared.reading.ColumnRead.{ColumnRead}

-- the values of a column in rows of a page
abbrev pub values_in : Layout → ℕ → List SqlRow → List Datum
values_in l column rows = map (λ r. cell (page_cells l r) column) rows

-- after what was read before come the keys of these rows, and their values
abbrev pub Adds : Layout → ℕ → List SqlRow → ColumnRead → ColumnRead → Type 0
Adds l column rows old new =
    (new.keys.items ≡ old.keys.items ++ map key_in rows)
    × (map datum new.values.items ≡ map datum old.values.items ++ values_in l column rows)

-- the rows from one key on are these, and those from another on
abbrev pub Parts : Layout → List SqlRow → Option ℤ → List SqlRow → Option ℤ → Type 0
Parts l entries low page next = rows_from l low entries ≡ page ++ rows_from l next entries

-- the keys and the values of the rows up to a key, or to the end, were read
pub record IsRead (l : Layout) (column : ℕ) (entries : List SqlRow) (next : Option ℤ) (read : ColumnRead) : Type 0 where
  pub seen : List SqlRow
  pub parts : Parts l entries (Some least) seen next
  pub keys_are : read.keys.items ≡ map key_in seen
  pub values_are : map datum read.values.items ≡ values_in l column seen

-- the keys of all rows in their order, and the index of the cells of the column
pub record IsLookup (l : Layout) (entries : List SqlRow) (x : Lookup) : Type 0 where
  pub keys_are : x.keys.items ≡ map key_in (range_of (places l) least greatest entries)
  pub index_is : IsIndexFrom 0 (column_cells x.column (rows_in l entries)) x.index

-- a row's cell of a column is equal to a value
abbrev pub has_value : ℕ → Datum → TableRow → Bool
has_value column v r = equals v (cell r.cells column)

-- the rows whose cell of a column is equal to a value
abbrev pub rows_with : Layout → ℕ → Datum → List SqlRow → List TableRow
rows_with l column v entries = filter (has_value column v) (rows_in l entries)
