-- What is noted of a line's members column by column, from what is seen of their values.
use Rattle.std.specs.Prelude.{ℕ, ℤ, List, [], ◌∷◌, map, Option, Some, None, option_map, unwrap_or, bytes_eq, if◌then◌else◌}
use Rattle.med_value.specs.Datum.{Datum, NoValue, Whole, Chars, Logic}
use Rattle.med_value.specs.declared.value.ColType.{ColType}
use Rattle.med_value.specs.declared.value.ColType.TheVariants as types
use Rattle.serde_json.specs.Data.{Members}
use Rattle.serde_json.specs.Find.{get_member}
use Rattle.json_members.specs.Seen.{Seen, nothing, logic, whole, real, chars, nested}
use Rattle.jsonl_wrapper.specs.Fields.{Reader}
use Rattle.jsonl_wrapper.specs.Objects.{clean_text, cell_of}
use Rattle.jsonl_wrapper.specs.Wholes.{is_whole}

-- `cell_of` of a member that is there, by what is seen of its value
abbrev pub cell_seen : Seen → ColType → Option Datum
cell_seen nothing kind = Some NoValue
cell_seen (logic b) types.Int = None
cell_seen (logic b) types.Text = None
cell_seen (logic b) types.Bool = Some (Logic b)
cell_seen (whole n) types.Int = Some (Whole n)
cell_seen (whole n) types.Text = None
cell_seen (whole n) types.Bool = None
cell_seen real kind = None
cell_seen (chars s) types.Int = None
cell_seen (chars s) types.Text = option_map Chars (clean_text s)
cell_seen (chars s) types.Bool = None
cell_seen nested kind = None

-- the integer that a cell is
abbrev pub whole_of : Datum → Option ℤ
whole_of NoValue = None
whole_of (Whole n) = Some n
whole_of (Chars s) = None
whole_of (Logic b) = None

-- a column's mark: none where its member is not of its type, else the integer that its cell is, if it is one
abbrev pub Mark : Type 0
Mark = Option (Option ℤ)

abbrev pub mark_of : Option Datum → Mark
mark_of cell = option_map whole_of cell

abbrev pub marks_of : List Reader → Members → List Mark
marks_of readers ms = map (λ f. mark_of (cell_of f.kind (get_member f.member ms))) readers

-- the cells of columns in an object with these members
abbrev pub row_of : List Reader → Members → List Datum
row_of readers ms = map (λ f. unwrap_or (cell_of f.kind (get_member f.member ms)) NoValue) readers

-- what columns note, once those that read a member note another value
abbrev pub at_member : {X : Type 0} → List ℕ → (ColType → X) → List Reader → List X → List X
at_member name value [] xs = xs
at_member name value (f ∷ fs) [] = []
at_member name value (f ∷ fs) (x ∷ xs) = (if bytes_eq f.member name then value f.kind else x) ∷ at_member name value fs xs

-- a mark as a kept cell: None is NULL
abbrev pub kept_of : Mark → Option ℤ
kept_of None = None
kept_of (Some kept) = kept

-- the kept cells of the columns of integers, from the marks of all columns
abbrev pub wholes_in : List Reader → List Mark → List (Option ℤ)
wholes_in [] marks = []
wholes_in (f ∷ fs) [] = []
wholes_in (f ∷ fs) (m ∷ ms) = if is_whole f.kind then kept_of m ∷ wholes_in fs ms else wholes_in fs ms
