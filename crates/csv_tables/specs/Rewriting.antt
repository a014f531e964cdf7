-- What the staged changes of a write make of the records of a table.
use Rattle.std.specs.Prelude.{◌≡◌, ℕ, ℤ, pos, negsuc, ◌^◌, Bool, true, false, List, [], ◌++◌, length, map, take, drop, if◌then◌else◌, nat_lt, Option, Some, None, Vec}
use Rattle.std.specs.Global.{Global}
use Rattle.std.specs.String.{string_bytes}
use Rattle.std.specs.List.{list_all, flat_map, range_with_len}
use Rattle.std.specs.Ordering.{nat_cmp}
use Rattle.std.specs.BTreeMap.{BTreeMap, get}
use Rattle.std.specs.Str.{is_utf8}
use Rattle.csv.specs.Records.{fields_of, partial_of}
use Rattle.csv.specs.Writing.{default_writer, text_written, fields_written, has_written, writer_setup}
use Rattle.csv.specs.declared.writer.Writer.{Writer}
use Rattle.csv.specs.declared.record.ByteRecord.{ByteRecord}
use Rattle.med_value.specs.Datum.{Datum, NoValue, Whole, Chars, Logic}
use Rattle.fdw_api.specs.Prelude.{TableRow, Held, Change, rows_after}
use Rattle.csv_tables.specs.declared.table.Rows.{Rows}
use Rattle.csv_tables.specs.declared.table.CsvTable.{CsvTable}
use Rattle.wrapper_parts.specs.declared.fates.Fate.{Fate}
use Rattle.wrapper_parts.specs.declared.fates.Fate.TheVariants.{Keep, Change as ChangeTo, Gone}
use Rattle.wrapper_parts.specs.Weaving as weaving
use Rattle.csv_tables.specs.declared.middle.Sorted.{Sorted}
use Rattle.csv_tables.specs.declared.middle.Gathered.{Gathered}
use Rattle.csv_tables.specs.declared.middle.Middle.{Middle}
use Rattle.csv_tables.specs.Cells.{line_of}
use Rattle.csv_tables.specs.CsvRecords.{Record, csv_records, csv_text, heading, is_whole}
use Rattle.csv_tables.specs.Shapes.{Shape, read_row, causes_behind}
use Rattle.csv_tables.specs.Held.{ended, is_plain}
use Rattle.csv_tables.specs.Flat.{header_in}
use Rattle.csv_tables.specs.Tables.{shape_is, numbered, records_of}

-- an integer from -2^63 to 2^63 - 1, and a text that is UTF-8: what a value of a program always is
abbrev pub is_i64 : ℤ → Bool
is_i64 (pos n) = nat_lt n (2 ^ 63)
is_i64 (negsuc n) = nat_lt n (2 ^ 63)

abbrev pub is_storable : Datum → Bool
is_storable NoValue = true
is_storable (Whole n) = is_i64 n
is_storable (Chars text) = is_utf8 text
is_storable (Logic b) = true

-- the record of a fate, if it has one, is of this many fields, each of them UTF-8
abbrev pub is_wide : ℕ → Fate ByteRecord → Bool
is_wide width Keep = true
is_wide width (ChangeTo r) = is_whole width (fields_of r)
is_wide width Gone = true

-- what is set for a record is another one, or None for nothing; where nothing is set, it stays
abbrev pub fate_is : Option (Option ByteRecord) → Fate ByteRecord
fate_is None = Keep
fate_is (Some None) = Gone
fate_is (Some (Some r)) = ChangeTo r

-- the fates of so many records, by what is set for their places
abbrev pub fates_of : BTreeMap ℕ (Option ByteRecord) → ℕ → List (Fate ByteRecord)
fates_of changed count = map (λ at. fate_is (get nat_cmp changed at)) (range_with_len 0 count)

-- each record that is set is of this many fields, each of them UTF-8
abbrev pub AllWide : ℕ → BTreeMap ℕ (Option ByteRecord) → Type 0
AllWide width changed = (place : ℕ) → is_wide width (fate_is (get nat_cmp changed place)) ≡ true

-- the records that their fates leave
abbrev pub left_by : List (Fate ByteRecord) → List Record → List Record
left_by = weaving.left_by fields_of

-- the rows of records, after their fates so far and the changes still to come
abbrev pub rows_left : Shape → List Record → List (Fate ByteRecord) → List Change → List Held
rows_left shape = weaving.rows_left (line_of shape.null) (read_row shape) fields_of

-- these records were put together, each of this many fields, and each field is UTF-8
pub record Gathers (width : ℕ) (rows : List Record) (g : Gathered) : Type 0 where
  pub no_partial : partial_of g.fields ≡ []
  pub count_is : length rows ≡ g.count
  pub whole : list_all (is_whole width) rows ≡ true
  pub lines : fields_of g.fields ≡ flat_map ended rows
  -- where it is said of them, the writer writes each as it stands
  pub shown : g.plain ≡ true → list_all is_plain rows ≡ true

-- a writer with the crate's defaults has written this text, and stands between two records
pub record HasWritten (text : List ℕ) (w : Writer (Vec ℕ Global)) : Type 0 where
  pub fields : fields_written w ≡ 0
  pub wrote : has_written w ≡ false
  pub setup : writer_setup w ≡ default_writer
  pub text_is : text_written (λ (v : Vec ℕ Global). Some v.items) w ≡ Some text

-- the rows of a table, under their ids
abbrev pub rows_in : CsvTable → List TableRow
rows_in t = numbered (shape_is t.layout) 0 (records_of t.rows)

-- the records that are left, and the new ones
abbrev pub all_left : Rows → Sorted → List Record
all_left r s = left_by (fates_of s.changed r.count) (records_of r) ++ map fields_of s.fresh.items

-- these are the records that were put together in the place of a range, with those in front of it and behind it
pub record Replaces (r : Rows) (all : List Record) (from to : ℕ) (g : Gathered) : Type 0 where
  pub middle : List Record
  pub gathers : Gathers r.width middle g
  pub all_is : take from (records_of r) ++ middle ++ drop to (records_of r) ≡ all

-- the records of a table with others in the place of a range
abbrev pub records_with : Rows → Middle → List Record
records_with r m = take m.from (records_of r) ++ records_of m.rows ++ drop m.to (records_of r)

-- an image by its beginning: it is all of it, or this text stands behind it
abbrev pub image_by : Bool → List ℕ → List ℕ → List ℕ
image_by in_pieces head text = if in_pieces then head ++ text else head

-- the text of records as they stand in a table
abbrev pub held_text : List Record → List ℕ
held_text rows = flat_map (λ field. field) (flat_map ended rows)

-- what a kept write leaves, for whose changes no cause stands: the rows after the changes, and the blob in which they stand behind the
-- header that the table holds
pub record Rewrites (t : CsvTable) (changes : List Change) (header records : List Record) (image : List ℕ) : Type 0 where
  pub rows : map (read_row (shape_is t.layout)) records ≡ rows_after (line_of (string_bytes t.layout.null)) (rows_in t) changes
  pub no_cause : causes_behind (shape_is t.layout) (header_in t.header) (rows_in t) changes ≡ []
  pub image_is : image ≡ csv_text (header_in t.header ++ records)
  pub header_is : heading t.layout.header (map string_bytes t.layout.names.items) (csv_records image) ≡ header
