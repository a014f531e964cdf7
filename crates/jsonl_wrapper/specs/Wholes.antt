-- The cells of integer columns, which a table keeps: row by row, and in each row column by column.
use Rattle.std.specs.Prelude.{ℕ, ℤ, Bool, true, false, not, List, [], ◌∷◌, map, flat_map, Option, Some, None, if◌then◌else◌}
use Rattle.med_value.specs.Datum.{Datum, NoValue, Whole, Tuple}
use Rattle.med_value.specs.declared.value.ColType.{ColType}
use Rattle.med_value.specs.declared.value.ColType.TheVariants as types
use Rattle.jsonl_wrapper.specs.Fields.{Reader}
use Rattle.jsonl_wrapper.specs.Objects.{json_of, read_cell}

-- what a kept cell means: an integer, or NULL
abbrev pub whole_is : Option ℤ → Datum
whole_is None = NoValue
whole_is (Some n) = Whole n

abbrev pub is_whole : ColType → Bool
is_whole types.Int = true
is_whole types.Text = false
is_whole types.Bool = false

-- there is such a column, and it has another type
abbrev pub is_other : Option ColType → Bool
is_other None = false
is_other (Some kind) = not (is_whole kind)

-- a column of integers that reads this member
abbrev pub whole_reader : List ℕ → Reader
whole_reader name = record { member = name; kind = types.Int }

-- the columns of integers
abbrev pub whole_readers : List Reader → List Reader
whole_readers [] = []
whole_readers (f ∷ fs) = if is_whole f.kind then f ∷ whole_readers fs else whole_readers fs

-- what they read in a line, and in each of these lines
abbrev pub wholes_at : List Reader → List ℕ → Tuple
wholes_at readers line = map (read_cell (json_of line)) (whole_readers readers)

abbrev pub wholes_of : List Reader → List (List ℕ) → Tuple
wholes_of readers lines = flat_map (wholes_at readers) lines
