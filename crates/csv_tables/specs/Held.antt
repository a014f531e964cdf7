-- Fields that are held in one text as they stand in a blob: each with one byte behind it, which ends it.
use Rattle.std.specs.Prelude.{◌<◌, ◌≤◌, ◌^◌, EachIndex, slice_index, ◌||◌, ◌+◌, ◌-◌, ℕ, Bool, not, ◌&&◌, if◌then◌else◌, List, [], ◌∷◌, ◌++◌, length, map, take, nat_lt}
use Rattle.std.specs.List.{list_all, list_any}
use Rattle.csv.specs.Machine.{line_feed}
use Rattle.csv.specs.Records.{Row, fields_of}
use Rattle.csv.specs.Writing.{comma, default_writer, needs_byte, needs_quotes}
use Rattle.csv_tables.specs.CsvRecords.{Record}

-- all of a text but its last byte
abbrev pub but_last : List ℕ → List ℕ
but_last text = take (length text - 1) text

-- the fields that are held, without the bytes that end them
abbrev pub held_of : Row → Record
held_of r = map but_last (fields_of r)

-- the byte that ends a field: a comma, or a line feed behind the last field of its record
abbrev pub end_of : Bool → ℕ
end_of last = if last then line_feed else comma

-- the fields of a record with the bytes that end them
abbrev pub ended : Record → Record
ended [] = []
ended (f ∷ []) = (f ++ line_feed ∷ []) ∷ []
ended (f ∷ g ∷ fs) = (f ++ comma ∷ []) ∷ ended (g ∷ fs)

-- how many bytes of a text the writer sets apart
abbrev pub special : ℕ → ℕ
special b = if needs_byte default_writer b then 1 else 0

abbrev pub special_in : List ℕ → ℕ
special_in [] = 0
special_in (b ∷ bs) = special b + special_in bs

-- a record of two fields or more, of which none needs quotes: the writer writes it as it stands in such a text
unfoldable pub is_plain : Record → Bool
is_plain r = nat_lt 1 (length r) && not (list_any (needs_quotes default_writer) r)

-- where it is said of records that they are plain, each of them is
unfoldable pub plain_if : Bool → List Record → Bool
plain_if said rows = not said || list_all is_plain rows

-- a place that is counted from `from`, counted from `to`
abbrev pub moved : ℕ → ℕ → ℕ → ℕ
moved from to place = (place - from) + to

-- places from one on, which as places from another fit 32 bits
abbrev pub CanMove : ℕ → ℕ → List ℕ → Type 0
CanMove from to places = EachIndex places (λ k. (from ≤ slice_index places k) × (moved from to (slice_index places k) < 2 ^ 32))
