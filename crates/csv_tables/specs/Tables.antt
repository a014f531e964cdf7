-- The records and the cells of a CSV table.
use Rattle.std.specs.Prelude.{◌+◌, ◌*◌, ℕ, zero, suc, List, [], ◌∷◌, length, map, take, drop}
use Rattle.std.specs.String.{string_bytes}
use Rattle.csv_tables.specs.Held.{held_of}
use Rattle.med_value.specs.Datum.{Tuple}
use Rattle.fdw_api.specs.Scan.{TableRow}
use Rattle.csv_tables.specs.declared.layout.Layout.{Layout}
use Rattle.csv_tables.specs.declared.table.Rows.{Rows}
use Rattle.csv_tables.specs.declared.table.CsvTable.{CsvTable}
use Rattle.csv_tables.specs.Cells.{record_cells}
use Rattle.csv_tables.specs.CsvRecords.{Record}
use Rattle.csv_tables.specs.Shapes.{Shape}
use Rattle.csv_tables.specs.Flat.{cut_into}

abbrev pub shape_is : Layout → Shape
shape_is l = record { kinds = l.kinds.items; names = map string_bytes l.names.items; header = l.header; null = string_bytes l.null }

-- the records that a table holds
abbrev pub records_of : Rows → List Record
records_of r = cut_into r.count r.width (held_of r.fields)

-- rows with their places as ids, each with its record
abbrev pub numbered : Shape → ℕ → List Record → List TableRow
numbered shape n [] = []
numbered shape n (r ∷ rs) = record { id = n; cells = record_cells shape.null shape.kinds r; origin = r } ∷ numbered shape (n + 1) rs

-- the record at a place, and its cells in a table
abbrev pub record_at : Rows → ℕ → Record
record_at r at = take r.width (drop (at * r.width) (held_of r.fields))

abbrev pub fields_at : CsvTable → ℕ → Record
fields_at t at = record_at t.rows at

abbrev pub cells_at : CsvTable → ℕ → Tuple
cells_at t at = record_cells (string_bytes t.layout.null) t.layout.kinds.items (fields_at t at)

-- how many bytes the field of a column has, 0 where it is not there
abbrev pub field_size : Record → ℕ → ℕ
field_size [] column = 0
field_size (f ∷ fs) zero = length f
field_size (f ∷ fs) (suc column) = field_size fs column
