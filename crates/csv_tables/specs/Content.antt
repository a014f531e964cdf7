-- How the records of a blob are read.
use Rattle.std.specs.Prelude.{◌≡◌, ◌++◌, ◌*◌, ◌<◌, ◌≤◌, ℕ, Bool, true, false, not, ◌||◌, List, [], ◌∷◌, length, Option, Some, Contains}
use Rattle.std.specs.List.{list_all, flat_map}
use denote.Ref.{Bor}
use Rattle.csv.specs.Reading.{Reached, Ready, default_config, has_failed, is_flexible, source_of, strip_bom}
use Rattle.csv.specs.Records.{fields_of, partial_of}
use Rattle.csv.specs.declared.reader.Reader.{Reader}
use Rattle.csv.specs.declared.parser.State.TheVariants as st
use Rattle.csv.specs.declared.reader.Trim.TheVariants as trim
use Rattle.med_value.specs.declared.cause.Cause.{Cause}
use Rattle.med_value.specs.Limits.{row_limit}
use Rattle.fdw_api.specs.declared.interface.Fault.{Fault}
use Rattle.fdw_api.specs.declared.interface.Fault.TheVariants.{NoMemory, Source, Refused}
use Rattle.csv_tables.specs.declared.content.Draft.{Draft}
use Rattle.csv_tables.specs.Cells.{is_readable}
use Rattle.csv_tables.specs.CsvRecords.{Record, csv_records, is_whole, heading, body}
use Rattle.csv_tables.specs.Shapes.{Shape, content_causes}
use Rattle.csv_tables.specs.Held.{held_of, ended}
use Rattle.csv_tables.specs.Flat.{cut_into, header_in}

abbrev pub SliceReader : Type 0
SliceReader = Reader (Bor (List ℕ))

abbrev pub known_bytes : Bor (List ℕ) → Option (List ℕ)
known_bytes s = Some s.now

-- a reader of these bytes has given these records, and goes on behind them
pub record HasRead (bytes : List ℕ) (rows : List Record) (rdr : SliceReader) : Type 0 where
  pub trim : rdr.trim ≡ trim.None
  pub ready : Ready rdr
  -- records may differ in length, so that none is an error of the reader's
  pub flexible : is_flexible rdr ≡ true
  -- no read of it has failed
  pub intact : has_failed rdr ≡ false
  pub config : rdr.config ≡ default_config
  pub rest : List ℕ
  pub source : source_of known_bytes rdr ≡ Some rest
  pub reached : Reached default_config st.StartRecord (strip_bom bytes) rows rdr.state rest

-- the reader gives one record more, or these were all
abbrev pub ReadsOn : List ℕ → List Record → Bool → Record → SliceReader → Type 0
ReadsOn bytes rows true fields rdr = HasRead bytes (rows ++ fields ∷ []) rdr
ReadsOn bytes rows false fields rdr = csv_records bytes ≡ rows

-- a fault of the reading of a blob is want of memory or a cause that stands for it
abbrev pub TellsCause : Fault → List Cause → Type 0
TellsCause NoMemory causes = Unit {0}
TellsCause Source causes = ⊥
TellsCause (Refused c) causes = Contains causes c

-- a record that is whole is also readable
abbrev pub reads : Shape → Record → Bool
reads shape r = not (is_whole (length shape.kinds) r) || is_readable shape.null shape.kinds r

-- the rows that were read so far, and all records
abbrev pub rows_so_far : Shape → Draft → List Record
rows_so_far shape d = cut_into d.count (length shape.kinds) (held_of d.fields)

abbrev pub records_so_far : Shape → Draft → List Record
records_so_far shape d = header_in d.header ++ rows_so_far shape d

-- no cause stands for the records so far, of which the first is the header, if the table has one
pub record IsDraft (shape : Shape) (d : Draft) : Type 0 where
  pub columns : 0 < length shape.kinds
  pub full : d.count * length shape.kinds ≡ length (held_of d.fields)
  pub no_partial : partial_of d.fields ≡ []
  -- they stand one after the other as they do in a blob
  pub lines : fields_of d.fields ≡ flat_map ended (rows_so_far shape d)
  pub few : d.count ≤ row_limit
  pub no_header : shape.header ≡ false → header_in d.header ≡ []
  pub header_first : shape.header ≡ true → header_in d.header ≡ [] → d.count ≡ 0
  pub whole : list_all (is_whole (length shape.kinds)) (records_so_far shape d) ≡ true
  pub readable : list_all (reads shape) (rows_so_far shape d) ≡ true

-- these are the header and the rows of a blob for which no cause stands
pub record IsContent (shape : Shape) (bytes : List ℕ) (header rows : List Record) : Type 0 where
  pub no_cause : content_causes shape bytes ≡ []
  pub header_is : heading shape.header shape.names (csv_records bytes) ≡ header
  pub rows_are : body shape.header (csv_records bytes) ≡ rows
