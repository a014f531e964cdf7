-- Records of one number of fields, held as one list of all their fields.
use Rattle.std.specs.Prelude.{◌≡◌, ◌*◌, ◌<◌, ◌^◌, ℕ, zero, suc, Bool, true, length, List, [], ◌∷◌, take, drop, Option, Some, None}
use Rattle.std.specs.List.{list_all, flat_map}
use Rattle.std.specs.Str.{is_utf8}
use Rattle.csv.specs.Records.{Row, fields_of, partial_of}
use Rattle.csv.specs.declared.record.ByteRecord.{ByteRecord}
use Rattle.csv_tables.specs.CsvRecords.{Record}
use Rattle.csv_tables.specs.Held.{held_of, ended, plain_if}

-- this many records, of this many fields each
abbrev pub cut_into : ℕ → ℕ → List (List ℕ) → List Record
cut_into zero width fields = []
cut_into (suc count) width fields = take width fields ∷ cut_into count width (drop width fields)

-- the header, if there is one
abbrev pub header_in : Option ByteRecord → List Record
header_in None = []
header_in (Some r) = fields_of r ∷ []

-- fields as they are held of so many records, of so many fields each, of which it may be said that the writer writes each as it stands
pub record AreRows (count width : ℕ) (plain : Bool) (fields : Row) : Type 0 where
  pub whole : count * width ≡ length (held_of fields)
  pub small : count < 2 ^ 64
  pub closed : partial_of fields ≡ []
  pub texts : list_all is_utf8 (held_of fields) ≡ true
  pub lines : fields_of fields ≡ flat_map ended (cut_into count width (held_of fields))
  pub shown : plain_if plain (cut_into count width (held_of fields)) ≡ true
