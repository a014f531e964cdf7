-- What columns and options say of a CSV table, what a blob gives such a table, and as what blob its rows are written.
use Rattle.std.specs.Prelude.{◌≡◌, ◌++◌, ℕ, Bool, true, false, not, ◌&&◌, ◌||◌, if◌then◌else◌, List, [], ◌∷◌, length, map, codes, Option, Some, None, unwrap_or, nat_eq, nat_lt, nat_le}
use Rattle.std.specs.List.{list_all, list_any}
use Rattle.std.specs.Str.{bytes_eq}
use mathlib.Core.Path.{refl, ap, ◌∙◌}
use Rattle.med_value.specs.Prelude.{phase_of, row_limit, byte_limit}
use Rattle.med_value.specs.declared.cause.Cause.{Cause}
use Rattle.med_value.specs.declared.cause.Cause.TheVariants.{TableNotFound, InvalidFormat, InvalidText, NotInState, TooLarge}
use Rattle.med_value.specs.declared.value.ColType.{ColType}
use Rattle.fdw_api.specs.Prelude.{TableRow, Column, OptionForm, Entry, Bytes, Stored, Held, Reading, Change, Inserts, Updates, Deletes, kinds_of, is_late, rows_after}
use Rattle.csv_tables.specs.Cells.{is_readable, record_cells, line_of, reads_as_null}
use Rattle.csv_tables.specs.CsvRecords.{Record, csv_records, csv_text, is_whole, body, heading}

-- the text of a table's option, if it is written
abbrev pub option_text : List ℕ → List OptionForm → Option (List ℕ)
option_text key [] = None
option_text key (s ∷ ss) = if nat_eq s.level 0 && bytes_eq s.key key then Some s.text else option_text key ss

-- what columns and options say of a CSV table: the types and names of its columns, whether its first record is a header, and the field
-- that is NULL, `\N` where it is not written
pub record Shape : Type 0 where
  pub kinds : List ColType
  pub names : Record
  pub header : Bool
  pub null : List ℕ

abbrev pub shape_of : List Column → List OptionForm → Shape
shape_of columns settings = record {
  kinds = kinds_of columns;
  names = map (λ c. c.name) columns;
  header = bytes_eq (unwrap_or (option_text (codes "header") settings) (codes "false")) (codes "true");
  null = unwrap_or (option_text (codes "null") settings) (codes "\\N");
}

-- a row with the record that it was read from
abbrev pub read_row : Shape → Record → Held
read_row shape fields = record { cells = record_cells shape.null shape.kinds fields; origin = fields }

-- a cause stands unless a test holds
abbrev pub unless : Bool → Cause → List Cause → List Cause
unless test cause more = if test then more else cause ∷ more

-- every record, the header too, is UTF-8 and has as many fields as the table columns, of which it has some
abbrev pub all_whole : Shape → List ℕ → Bool
all_whole shape bytes = nat_lt 0 (length shape.kinds) && list_all (is_whole (length shape.kinds)) (csv_records bytes)

-- the fields of each such record, but for the header, are of their columns' types
abbrev pub all_readable : Shape → List ℕ → Bool
all_readable shape bytes =
    list_all (λ r. not (is_whole (length shape.kinds) r) || is_readable shape.null shape.kinds r) (body shape.header (csv_records bytes))

-- 54000 over 67,108,864 bytes, HV00A where a record is not whole, 22P02 where a cell is not of its column's type, 54000 over 1,000,000 rows
abbrev pub content_causes : Shape → List ℕ → List Cause
content_causes shape bytes =
    unless (nat_le (length bytes) byte_limit) TooLarge
    (unless (all_whole shape bytes) InvalidFormat
    (unless (all_readable shape bytes) InvalidText
    (unless (nat_le (length (body shape.header (csv_records bytes))) row_limit) TooLarge [])))

pub unless_late : (test : Bool) (cause : Cause) (more : List Cause) → is_late (phase_of cause) ≡ true
    → list_all (λ c. is_late (phase_of c)) more ≡ true → list_all (λ c. is_late (phase_of c)) (unless test cause more) ≡ true
unless_late true cause more late rest = rest
unless_late false cause more late rest = ap (λ b. b && list_all (λ c. is_late (phase_of c)) more) late ∙ rest

pub four_late : (a b c d : Bool)
    → list_all (λ c. is_late (phase_of c)) (unless a TooLarge (unless b InvalidFormat (unless c InvalidText (unless d TooLarge [])))) ≡ true
four_late a b c d =
    unless_late a TooLarge (unless b InvalidFormat (unless c InvalidText (unless d TooLarge []))) refl
    (unless_late b InvalidFormat (unless c InvalidText (unless d TooLarge [])) refl
    (unless_late c InvalidText (unless d TooLarge []) refl (unless_late d TooLarge [] refl refl)))

pub content_late : (shape : Shape) (bytes : List ℕ) → list_all (λ c. is_late (phase_of c)) (content_causes shape bytes) ≡ true
content_late shape bytes =
    four_late (nat_le (length bytes) byte_limit) (all_whole shape bytes) (all_readable shape bytes)
    (nat_le (length (body shape.header (csv_records bytes))) row_limit)

-- what a blob gives a table: HV00R where there is none, else the causes of its content, and its records behind the header as rows
abbrev pub csv_reading : Shape → Option Entry → Reading
csv_reading shape None = record { causes = TableNotFound ∷ []; rows = []; late = refl }
csv_reading shape (Some (Stored kinds rows)) = record { causes = TableNotFound ∷ []; rows = []; late = refl }
csv_reading shape (Some (Bytes bytes)) = record {
  causes = content_causes shape bytes;
  rows = map (read_row shape) (body shape.header (csv_records bytes));
  late = content_late shape bytes;
}

-- the records that stand in an entry
abbrev pub records_in : Option Entry → List Record
records_in None = []
records_in (Some (Stored kinds rows)) = []
records_in (Some (Bytes bytes)) = csv_records bytes

-- the bytes of an image: a header, if there is one, and then the records of the rows in their order
abbrev pub rows_text : List Record → List Held → List ℕ
rows_text header rows = csv_text (header ++ map (λ r. r.origin) rows)

-- the header is that of the entry, if the table has one
abbrev pub image_bytes : Shape → Option Entry → List Held → List ℕ
image_bytes shape entry rows = rows_text (heading shape.header shape.names (records_in entry)) rows

abbrev pub csv_image : Shape → Option Entry → List Held → Option Entry
csv_image shape entry rows = Some (Bytes (image_bytes shape entry rows))

-- a new row has a value other than NULL that would be read as NULL
abbrev pub hides_value : List ℕ → Change → Bool
hides_value null (Inserts r) = list_any (reads_as_null null) r
hides_value null (Updates id r) = list_any (reads_as_null null) r
hides_value null (Deletes id) = false

-- 55000 where a value would be read as NULL, 54000 over 1,000,000 rows or over 67,108,864 bytes, where this header stands before the rows
abbrev pub causes_behind : Shape → List Record → List TableRow → List Change → List Cause
causes_behind shape header rows changes =
    unless (not (list_any (hides_value shape.null) changes)) NotInState
    (unless (nat_le (length (rows_after (line_of shape.null) rows changes)) row_limit) TooLarge
    (unless (nat_le (length (rows_text header (rows_after (line_of shape.null) rows changes))) byte_limit) TooLarge []))
