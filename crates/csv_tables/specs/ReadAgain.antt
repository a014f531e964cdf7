-- What a written text is read again as.
use Rattle.std.specs.Prelude.{◌≡◌, ◌<◌, ℕ, Bool, true, if◌then◌else◌, List, [], ◌∷◌, length, map, Option}
use Rattle.std.specs.List.{list_all}
use Rattle.std.specs.Str.{is_utf8, bytes_eq}
use Rattle.csv.specs.Reading.{strip_bom}
use Rattle.csv.specs.Writing.{default_writer, needs_quotes}
use Rattle.fdw_api.specs.Prelude.{Held, Entry, Change, Inserts, Updates, Deletes, row_of_change_fits, rows_after}
use Rattle.csv_tables.specs.Cells.{is_readable, line_of}
use Rattle.csv_tables.specs.CsvRecords.{Record, is_whole, is_header, heading}
use Rattle.csv_tables.specs.Shapes.{Shape, causes_behind, records_in}
use Rattle.csv_tables.specs.Tables.{numbered}
use Rattle.csv_tables.specs.Rewriting.{is_storable}

-- the byte order mark, U+FEFF in UTF-8
abbrev pub mark : List ℕ
mark = 0xEF ∷ 0xBB ∷ 0xBF ∷ []

-- no byte order mark stands at the start of a text
abbrev pub IsUnmarked : List ℕ → Type 0
IsUnmarked text = strip_bom text ≡ text

-- the first field of a text, without a byte order mark at its start. In a field between quotes the mark stands behind a quote, and stays
abbrev pub field_behind_mark : List ℕ → List ℕ
field_behind_mark field = if needs_quotes default_writer field then field else strip_bom field

-- the records of a text, without a byte order mark at its start. Where the first record is the mark alone, a blank line is left of it,
-- which is no record
abbrev pub records_behind_mark : List Record → List Record
records_behind_mark [] = []
records_behind_mark ([] ∷ rows) = [] ∷ rows
records_behind_mark ((f ∷ []) ∷ rows) = if bytes_eq f mark then rows else (field_behind_mark f ∷ []) ∷ rows
records_behind_mark ((f ∷ g ∷ fs) ∷ rows) = (field_behind_mark f ∷ g ∷ fs) ∷ rows

-- the new values of a change are those of a program: 64-bit integers, and texts that are UTF-8
abbrev pub is_change_storable : Change → Bool
is_change_storable (Inserts r) = list_all is_storable r
is_change_storable (Updates id r) = list_all is_storable r
is_change_storable (Deletes id) = true

-- the rows that changes leave of these records
abbrev pub rows_left : Shape → List Record → List Change → List Held
rows_left shape records changes = rows_after (line_of shape.null) (numbered shape 0 records) changes

-- a table may hold this header and these records: it has columns, its records and its header are of as many fields as it has columns, each
-- of them UTF-8, and each field of a record is of its column's type
pub record IsTable (shape : Shape) (header records : List Record) : Type 0 where
  pub columns : 0 < length shape.kinds
  pub header_is : is_header shape.header header ≡ true
  pub header_whole : list_all (is_whole (length shape.kinds)) header ≡ true
  pub whole : list_all (is_whole (length shape.kinds)) records ≡ true
  pub readable : list_all (is_readable shape.null shape.kinds) records ≡ true

-- these changes of such a table are kept: they fit, their values are those of a program, and no cause stands for them
pub record IsKept (shape : Shape) (header records : List Record) (changes : List Change) : Type 0 where
  pub table : IsTable shape header records
  pub null : is_utf8 shape.null ≡ true
  pub fit : list_all (row_of_change_fits shape.kinds) changes ≡ true
  pub storable : list_all is_change_storable changes ≡ true
  pub no_cause : causes_behind shape header (numbered shape 0 records) changes ≡ []

-- the header that an image has where this entry stood before it
abbrev pub header_under : Shape → Option Entry → List Record
header_under shape entry = heading shape.header shape.names (records_in entry)

-- the records in which the rows after them stand
abbrev pub records_left : Shape → List Record → List Change → List Record
records_left shape records changes = map (λ r. r.origin) (rows_left shape records changes)
