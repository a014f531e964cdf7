-- JSON lines as a content: what it reads as, how rows are written, and what is refused.
use Rattle.std.specs.Prelude.{◌≡◌, ◌⊎◌, Contains, ℕ, ℤ, Bool, true, false, not, ◌&&◌, ◌||◌, List, [], ◌∷◌, ◌++◌, map, flat_map, length, Option, Some, None, is_some, option_map, option_and_then, unwrap_or, if◌then◌else◌, nat_eq, nat_lt}
use mathlib.Core.Path.{refl, ap, ◌∙◌}
use Rattle.std.specs.List.{list_all, list_any}
use Rattle.med_value.specs.Prelude.{Datum, NoValue, Whole, Chars, Logic, Tuple, phase_of, row_limit, byte_limit}
use Rattle.med_value.specs.declared.value.ColType.{ColType}
use Rattle.med_value.specs.declared.value.ColType.TheVariants as types
use Rattle.med_value.specs.declared.cause.Cause.{Cause}
use Rattle.med_value.specs.declared.cause.Cause.TheVariants.{InvalidFormat, InvalidText, NotInState, TooLarge}
use Rattle.fdw_api.specs.Scan.{has_kind, is_clean as no_zero, row_fits, TableRow}
use Rattle.fdw_api.specs.Prelude.{Held, Reading, Change, Inserts, Updates, Deletes, all_fit, is_late, rows_after}
use Rattle.fdw_api.specs.declared.interface.Fault.{Fault}
use Rattle.fdw_api.specs.declared.interface.Fault.TheVariants.{NoMemory, Source, Refused}
use Rattle.serde_json.specs.Data.{Data}
use Rattle.serde_json.specs.Find.{as_null, as_number, as_i64, as_str, as_bool}
use Rattle.jsonl_wrapper.specs.Lines.{content_lines, text_of}
use Rattle.jsonl_wrapper.specs.Fields.{Reader}
use Rattle.jsonl_wrapper.specs.Objects.{is_object, is_typed, is_wider, is_clean, clean_text, member_value, cell_of, cells_at, find_member, json_of, read_cell}
use Rattle.jsonl_wrapper.specs.Written.{line_text}

-- the cause, where the test is true
abbrev pub where_true : Bool → Cause → List Cause
where_true true c = c ∷ []
where_true false c = []

-- a row with the line that it was read from
abbrev pub row_at : List Reader → List ℕ → Held
row_at readers line = record { cells = cells_at readers line; origin = line ∷ [] }

abbrev pub rows_of_lines : List Reader → List (List ℕ) → List Held
rows_of_lines readers lines = map (row_at readers) lines

-- over 1,000,000 lines, or over 67,108,864 bytes
abbrev pub is_too_large : ℕ → ℕ → Bool
is_too_large rows bytes = nat_lt row_limit rows || nat_lt byte_limit bytes

-- the causes that a content shows: 54000 by its size, HV00A by a line that is no object, 22P02 by a member that is not of its column's type
abbrev pub content_causes : List Reader → List ℕ → List Cause
content_causes readers content =
    where_true (is_too_large (length (content_lines content)) (length content)) TooLarge
    ++ (where_true (not (list_all is_object (content_lines content))) InvalidFormat
    ++ where_true (not (list_all (is_typed readers) (content_lines content))) InvalidText)

pub causes_are_late : (large object typed : Bool)
    → list_all (λ c. is_late (phase_of c))
    (where_true large TooLarge ++ (where_true object InvalidFormat ++ where_true typed InvalidText)) ≡ true
causes_are_late true true true = refl
causes_are_late true true false = refl
causes_are_late true false true = refl
causes_are_late true false false = refl
causes_are_late false true true = refl
causes_are_late false true false = refl
causes_are_late false false true = refl
causes_are_late false false false = refl

abbrev pub content_reading : List Reader → List ℕ → Reading
content_reading readers content = record {
  causes = content_causes readers content;
  rows = rows_of_lines readers (content_lines content);
  late = causes_are_late (is_too_large (length (content_lines content)) (length content))
      (not (list_all is_object (content_lines content))) (not (list_all (is_typed readers) (content_lines content)));
}

-- cells that are read are of their columns' types, without U+0000
abbrev pub fits : ColType → Datum → Bool
fits kind v = has_kind kind v && no_zero v

pub none_fits : (kind : ColType) → fits kind NoValue ≡ true
none_fits types.Int = refl
none_fits types.Text = refl
none_fits types.Bool = refl

pub whole_fits : (o : Option ℤ) → fits types.Int (unwrap_or (option_map Whole o) NoValue) ≡ true
whole_fits None = refl
whole_fits (Some z) = refl

pub clean_fits : (text : List ℕ) (b : Bool) → is_clean text ≡ b
    → fits types.Text (unwrap_or (option_map Chars (if b then Some text else None)) NoValue) ≡ true
clean_fits text true e = e
clean_fits text false e = refl

pub text_fits : (o : Option (List ℕ)) → fits types.Text (unwrap_or (option_map Chars (option_and_then clean_text o)) NoValue) ≡ true
text_fits None = refl
text_fits (Some text) = clean_fits text (is_clean text) refl

pub truth_fits : (o : Option Bool) → fits types.Bool (unwrap_or (option_map Logic o) NoValue) ≡ true
truth_fits None = refl
truth_fits (Some b) = refl

pub value_fits : (kind : ColType) (d : Data) → fits kind (unwrap_or (member_value kind d) NoValue) ≡ true
value_fits types.Int d = whole_fits (option_and_then as_i64 (as_number d))
value_fits types.Text d = text_fits (as_str d)
value_fits types.Bool d = truth_fits (as_bool d)

pub either_fits : (kind : ColType) (d : Data) (b : Bool)
    → fits kind (unwrap_or (if b then Some NoValue else member_value kind d) NoValue) ≡ true
either_fits kind d true = none_fits kind
either_fits kind d false = value_fits kind d

pub cell_fits : (kind : ColType) (o : Option Data) → fits kind (unwrap_or (cell_of kind o) NoValue) ≡ true
cell_fits kind None = none_fits kind
cell_fits kind (Some d) = either_fits kind d (is_some (as_null d))

pub both_hold : (a b : Bool) → a ≡ true → b ≡ true → (a && b) ≡ true
both_hold a b p q = ap (λ x. x && b) p ∙ q

pub cells_fit : (readers : List Reader) (value : Option Data) → row_fits (map (λ f. f.kind) readers) (map (read_cell value) readers) ≡ true
cells_fit [] value = refl
cells_fit (f ∷ fs) value = both_hold _ _ (cell_fits f.kind (find_member f.member value)) (cells_fit fs value)

pub rows_fit : (readers : List Reader) (lines : List (List ℕ)) → all_fit (map (λ f. f.kind) readers) (rows_of_lines readers lines) ≡ true
rows_fit readers [] = refl
rows_fit readers (l ∷ ls) = both_hold _ _ (cells_fit readers (json_of l)) (rows_fit readers ls)

-- a written row becomes one line
abbrev pub json_line : List Reader → Tuple → List (List ℕ)
json_line readers cells = line_text readers cells ∷ []

-- written rows become their lines, one below the other
abbrev pub lines_held : List Held → List (List ℕ)
lines_held rows = flat_map (λ r. r.origin) rows

-- the line of the row of this id has a member that no column reads
abbrev pub widens : List Reader → List TableRow → ℕ → Bool
widens readers rows id = list_any (λ r. nat_eq id r.id && list_any (is_wider readers) r.origin) rows

-- the change is an update of such a row
abbrev pub updates_wider : List Reader → List TableRow → Change → Bool
updates_wider readers rows (Inserts cells) = false
updates_wider readers rows (Updates id cells) = widens readers rows id
updates_wider readers rows (Deletes id) = false

-- what these rows would be written as is too large
abbrev pub image_too_large : List Held → Bool
image_too_large rows = is_too_large (length rows) (length (text_of (lines_held rows)))

-- a write is refused by 55000 where it updates such a line, and by 54000 where it would leave too many rows or bytes
abbrev pub write_causes : List Reader → List TableRow → List Change → List Cause
write_causes readers rows changes =
    where_true (list_any (updates_wider readers rows) changes) NotInState
    ++ where_true (image_too_large (rows_after (json_line readers) rows changes)) TooLarge

-- why a line is refused: it is no object, or a member is not of its column's type
abbrev pub LineRefused : List Reader → List ℕ → Fault → Type 0
LineRefused readers line NoMemory = Unit {0}
LineRefused readers line Source = ⊥
LineRefused readers line (Refused c) =
    ((c ≡ InvalidFormat) × (is_object line ≡ false)) ⊎ ((c ≡ InvalidText) × (is_typed readers line ≡ false))

-- a content is refused by a cause that it shows
abbrev pub ContentRefused : List Reader → List ℕ → Fault → Type 0
ContentRefused readers content NoMemory = Unit {0}
ContentRefused readers content Source = ⊥
ContentRefused readers content (Refused c) = Contains (content_causes readers content) c

-- a write is refused by a cause that stands for its changes
abbrev pub WriteRefused : List Reader → List TableRow → List Change → Fault → Type 0
WriteRefused readers rows changes NoMemory = Unit {0}
WriteRefused readers rows changes Source = ⊥
WriteRefused readers rows changes (Refused c) = Contains (write_causes readers rows changes) c
