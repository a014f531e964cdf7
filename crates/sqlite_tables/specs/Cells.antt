-- Stored cells and rows as values.
use Rattle.std.specs.Prelude.{ℕ, ℤ, pos, negsuc, Bool, true, false, ◌&&◌, nat_lt, length, ◌-◌, ◌^◌, if◌then◌else◌, List, [], map}
use Rattle.std.specs.List.{list_all}
use Rattle.std.specs.Ordering.{int_eq}
use Rattle.std.specs.Int.{w64, cast_unsigned}
use Rattle.std.specs.Str.{is_utf8}
use Rattle.sqlite.specs.declared.types.Value.{Value as SqlValue}
use Rattle.sqlite.specs.declared.types.Value.TheVariants as sql
use Rattle.sqlite.specs.Order.{Row as SqlRow, column}
use Rattle.sqlite.specs.Edit.{id_in}
use Rattle.sqlite_looks.specs.Pages.{range_of}
use Rattle.med_value.specs.Datum.{Datum, NoValue, Whole, Chars, Logic, Tuple}
use Rattle.med_value.specs.declared.value.ColType.{ColType}
use Rattle.med_value.specs.declared.value.ColType.TheVariants as types
use Rattle.fdw_api.specs.Scan.{TableRow}
use Rattle.sqlite_tables.specs.declared.columns.PageColumn.{PageColumn}
use Rattle.sqlite_tables.specs.Layouts.{Layout, places}

-- a value that is not of this type, for a stored cell of another storage class
abbrev pub stray : ColType → Datum
stray types.Int = Logic false
stray types.Text = Logic false
stray types.Bool = Whole (pos 2)

-- 0 is false and 1 is true; another number is no truth value
abbrev pub truth_of : ℤ → Datum
truth_of n = if int_eq n (pos 0) then Logic false else (if int_eq n (pos 1) then Logic true else Whole n)

-- a stored cell in a column of a type: NULL, an integer, a text that is UTF-8, or 0 and 1 for false and true
abbrev pub cell_of : ColType → SqlValue → Datum
cell_of kind sql.Null = NoValue
cell_of types.Int (sql.Int n) = Whole n
cell_of types.Bool (sql.Int n) = truth_of n
cell_of types.Text (sql.Text t) = if is_utf8 t then Chars t else stray types.Text
cell_of kind v = stray kind

-- the key of a row of a page, which is its first cell; the row's id is the key's 64 bits
abbrev pub key_in : SqlRow → ℤ
key_in row = id_in (column row 0)

abbrev pub is_int : SqlValue → Bool
is_int (sql.Int n) = true
is_int sql.Null = false
is_int (sql.Real x) = false
is_int (sql.Text t) = false
is_int (sql.Blob b) = false

abbrev pub has_key : SqlRow → Bool
has_key row = is_int (column row 0)

-- the places of these columns are among the first n
abbrev pub are_below : ℕ → List PageColumn → Bool
are_below n columns = list_all (λ c. nat_lt c.place n) columns

-- a row of a page has an integer key, and a cell in the place of each column
abbrev pub is_row : Layout → SqlRow → Bool
is_row l row = has_key row && are_below (length row) l.columns

-- a page shows each column
abbrev pub is_paged : Layout → Bool
is_paged l = are_below (length (places l)) l.columns

abbrev pub id_of : ℤ → ℕ
id_of key = cast_unsigned w64 key

-- the values of the columns in a row of a page: each is the cell in its place, as a value of its type
abbrev pub cells_at : List PageColumn → SqlRow → Tuple
cells_at columns row = map (λ c. cell_of c.kind (column row c.place)) columns

abbrev pub page_cells : Layout → SqlRow → Tuple
page_cells l row = cells_at l.columns row

abbrev pub row_in : Layout → SqlRow → TableRow
row_in l row = record { id = id_of (key_in row); cells = page_cells l row; origin = [] }

-- the keys of SQLite are 64 bit integers
abbrev pub least : ℤ
least = negsuc (2 ^ 63 - 1)

abbrev pub greatest : ℤ
greatest = pos (2 ^ 63 - 1)

-- the rows of a table, from those of its tree, in the order of their keys
abbrev pub rows_in : Layout → List SqlRow → List TableRow
rows_in l tree = map (row_in l) (range_of (places l) least greatest tree)
