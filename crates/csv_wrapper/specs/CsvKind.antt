-- The CSV kind of source: its options, what it reads from a blob, what it writes, and when it refuses a write.
use Rattle.std.specs.Prelude.{◌≡◌, ℕ, ℤ, Bool, true, false, not, ◌&&◌, ◌||◌, if◌then◌else◌, List, [], ◌∷◌, length, map, codes, Option, Some, None, option_map, unwrap_or, nat_eq, nat_le}
use Rattle.std.specs.List.{flat_map, list_all, list_any}
use Rattle.std.specs.Str.{is_utf8, bytes_eq}
use mathlib.Core.Path.{refl, ap, ◌∙◌}
use Rattle.med_value.specs.Prelude.{phase_of, Datum, NoValue, Whole, Chars, Logic, row_limit, byte_limit}
use Rattle.med_value.specs.declared.cause.Cause.{Cause}
use Rattle.med_value.specs.declared.cause.Cause.TheVariants.{InvalidOptionName, InvalidOptionValue, NotInState, TooLarge}
use Rattle.med_value.specs.declared.value.ColType.{ColType}
use Rattle.med_value.specs.declared.value.ColType.TheVariants as types
use Rattle.fdw_api.specs.Prelude.{TableRow, row_fits, has_kind, is_clean, Kind, OptionForm, Entry, Bytes, Stored, Change, Refusals, all_fit, as_they_come, is_of_run, rows_after}
use Rattle.csv_tables.specs.Cells.{cell_of, record_cells, line_of, field_value, integer_of, truth_of, without_spaces}
use Rattle.csv_tables.specs.CsvRecords.{Record, csv_records, body, heading}
use Rattle.csv_tables.specs.Shapes.{Shape, shape_of, read_row, unless, csv_reading, records_in, image_bytes, csv_image, hides_value, causes_behind}

-- a table has the options `header`, `true` or `false`, and `null`, any text; another is HV00D, another value of `header` 22P02.
-- Columns have none
abbrev pub objections_to : OptionForm → List Cause
objections_to s =
    if not (nat_eq s.level 0) then InvalidOptionName ∷ []
    else (if bytes_eq s.key (codes "null") then []
    else (if not (bytes_eq s.key (codes "header")) then InvalidOptionName ∷ []
    else (if bytes_eq s.text (codes "true") || bytes_eq s.text (codes "false") then [] else InvalidOptionValue ∷ [])))

-- the causes against a write to a table under whose name this entry stands
abbrev pub write_causes : Shape → Option Entry → List TableRow → List Change → List Cause
write_causes shape entry = causes_behind shape (heading shape.header shape.names (records_in entry))

pub unless_of_run : (test : Bool) (cause : Cause) (more : List Cause) → is_of_run (phase_of cause) ≡ true
    → list_all (λ c. is_of_run (phase_of c)) more ≡ true → list_all (λ c. is_of_run (phase_of c)) (unless test cause more) ≡ true
unless_of_run true cause more late rest = rest
unless_of_run false cause more late rest = ap (λ b. b && list_all (λ c. is_of_run (phase_of c)) more) late ∙ rest

pub three_of_run : (a b c : Bool)
    → list_all (λ c. is_of_run (phase_of c)) (unless a NotInState (unless b TooLarge (unless c TooLarge []))) ≡ true
three_of_run a b c =
    unless_of_run a NotInState (unless b TooLarge (unless c TooLarge [])) refl
    (unless_of_run b TooLarge (unless c TooLarge []) refl (unless_of_run c TooLarge [] refl refl))

abbrev pub csv_refusals : Shape → Refusals
csv_refusals shape = record {
  causes = write_causes shape;
  of_run = λ entry rows changes. three_of_run (not (list_any (hides_value shape.null) changes))
      (nat_le (length (rows_after (line_of shape.null) rows changes)) row_limit)
      (nat_le (length (image_bytes shape entry (rows_after (line_of shape.null) rows changes))) byte_limit);
}

-- a value that a field means is of its column's type, without U+0000
pub value_fits : (kind : ColType) (text : List ℕ)
    → (has_kind kind (unwrap_or (field_value kind text) NoValue) && is_clean (unwrap_or (field_value kind text) NoValue)) ≡ true
value_fits types.Text text = clean (list_any (nat_eq 0) text) refl
  where
    clean : (b : Bool) → list_any (nat_eq 0) text ≡ b
        → (has_kind types.Text (unwrap_or (if b then None else Some (Chars text)) NoValue)
        && is_clean (unwrap_or (if b then None else Some (Chars text)) NoValue)) ≡ true
    clean true e = refl
    clean false e = ap not e
value_fits types.Int [] = refl
value_fits types.Int (c ∷ cs) = whole (integer_of (without_spaces (c ∷ cs)))
  where
    whole : (o : Option ℤ)
        → (has_kind types.Int (unwrap_or (option_map Whole o) NoValue) && is_clean (unwrap_or (option_map Whole o) NoValue)) ≡ true
    whole None = refl
    whole (Some n) = refl
value_fits types.Bool [] = refl
value_fits types.Bool (c ∷ cs) = logic (truth_of (c ∷ cs))
  where
    logic : (o : Option Bool)
        → (has_kind types.Bool (unwrap_or (option_map Logic o) NoValue) && is_clean (unwrap_or (option_map Logic o) NoValue)) ≡ true
    logic None = refl
    logic (Some b) = refl

pub cell_fits : (null : List ℕ) (kind : ColType) (field : List ℕ)
    → (has_kind kind (unwrap_or (cell_of null kind field) NoValue) && is_clean (unwrap_or (cell_of null kind field) NoValue)) ≡ true
cell_fits null kind field = by (is_utf8 field) (bytes_eq field null) (field_value kind field) (value_fits kind field)
  where
    by : (u b : Bool) (o : Option Datum) → (has_kind kind (unwrap_or o NoValue) && is_clean (unwrap_or o NoValue)) ≡ true
        → (has_kind kind (unwrap_or (if u then (if b then Some NoValue else o) else None) NoValue)
        && is_clean (unwrap_or (if u then (if b then Some NoValue else o) else None) NoValue)) ≡ true
    by false b o h = refl
    by true true o h = refl
    by true false o h = h

pub record_fits : (null : List ℕ) (kinds : List ColType) (fields : List (List ℕ)) → row_fits kinds (record_cells null kinds fields) ≡ true
record_fits null [] fields = refl
record_fits null (k ∷ ks) [] = record_fits null ks []
record_fits null (k ∷ ks) (f ∷ fs) =
    ap (λ b. b && row_fits ks (record_cells null ks fs)) (cell_fits null k f) ∙ record_fits null ks fs

pub rows_fit : (shape : Shape) (rows : List Record) → all_fit shape.kinds (map (read_row shape) rows) ≡ true
rows_fit shape [] = refl
rows_fit shape (r ∷ rs) =
    ap (λ b. b && all_fit shape.kinds (map (read_row shape) rs)) (record_fits shape.null shape.kinds r) ∙ rows_fit shape rs

pub reading_fits : (shape : Shape) (entry : Option Entry) → all_fit shape.kinds (csv_reading shape entry).rows ≡ true
reading_fits shape None = refl
reading_fits shape (Some (Stored kinds rows)) = refl
reading_fits shape (Some (Bytes bytes)) = rows_fit shape (body shape.header (csv_records bytes))

abbrev pub csv_kind : Kind
csv_kind = record {
  objections = λ columns settings. flat_map objections_to settings;
  reads = λ columns settings. csv_reading (shape_of columns settings);
  typed = λ columns settings entry none. reading_fits (shape_of columns settings) entry;
  line = λ columns settings. line_of (shape_of columns settings).null;
  image = λ columns settings. csv_image (shape_of columns settings);
  arrangement = λ columns settings. as_they_come;
  refuses = λ columns settings. csv_refusals (shape_of columns settings);
}
