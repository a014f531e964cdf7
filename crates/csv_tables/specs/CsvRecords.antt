-- The records of a CSV blob, and the blob as which records are written.
use Rattle.std.specs.Prelude.{ℕ, Bool, true, false, ◌&&◌, if◌then◌else◌, List, [], ◌∷◌, drop, length, nat_eq}
use Rattle.std.specs.List.{flat_map, list_all}
use Rattle.std.specs.Str.{is_utf8}
use Rattle.csv.specs.Reading.{default_config, strip_bom, records}
use Rattle.csv.specs.Writing.{default_writer, row_text}

abbrev pub Record : Type 0
Record = List (List ℕ)

-- the records of a blob: those that the crate `csv` reads with its default dialect, behind a byte order mark
abbrev pub csv_records : List ℕ → List Record
csv_records bytes = records default_config (strip_bom bytes)

-- records one after the other, as the crate's default writer writes them
abbrev pub csv_text : List Record → List ℕ
csv_text rows = flat_map (row_text default_writer) rows

-- a record of this many fields, each of them UTF-8
abbrev pub is_whole : ℕ → Record → Bool
is_whole width fields = nat_eq (length fields) width && list_all is_utf8 fields

-- the records that are rows, where a header may stand first
abbrev pub body : Bool → List Record → List Record
body header rows = if header then drop 1 rows else rows

-- the header of an image: the one that stood first, or the column names where no record stood
abbrev pub heading : Bool → Record → List Record → List Record
heading false names rows = []
heading true names [] = names ∷ []
heading true names (r ∷ rs) = r ∷ []

-- the header of a table: none, or one record with at least one field
abbrev pub has_field : Record → Bool
has_field [] = false
has_field (f ∷ fs) = true

abbrev pub is_header : Bool → List Record → Bool
is_header false [] = true
is_header false (r ∷ rs) = false
is_header true [] = false
is_header true (r ∷ []) = has_field r
is_header true (r ∷ q ∷ rs) = false
