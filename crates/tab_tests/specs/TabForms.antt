-- Tables of tab-separated lines as a format of tables whose rows have places.
use Rattle.std.specs.Prelude.{◌≡◌, ℕ, ◌+◌, Bool, true, false, ◌&&◌, List, [], ◌∷◌, ◌++◌, map, Option, Some, None}
use Rattle.std.specs.String.{string_bytes}
use mathlib.Core.Path.{refl, ap, ◌∙◌}
use Rattle.std.specs.List.{list_all}
use Rattle.std.specs.Str.{is_utf8}
use Rattle.med_value.specs.Prelude.{Tuple, tuple, phase_of}
use Rattle.med_value.specs.declared.cause.Cause.{Cause}
use Rattle.med_value.specs.declared.cause.Cause.TheVariants.{TableNotFound, DatatypeMismatch, InvalidOptionName, InvalidFormat, InvalidText}
use Rattle.med_value.specs.declared.value.ColType.{ColType}
use Rattle.med_value.specs.declared.value.ColType.TheVariants as types
use Rattle.fdw_api.specs.Prelude.{TableRow, row_fits, Kind, Column, OptionForm, Entry, Bytes, Stored, Held, Reading, Refusals, kinds_of, all_fit, as_they_come, is_of_run, BoxTable, rows_after}
use Rattle.fdw_api.specs.declared.scan.Agree.TheVariants.{Ignored}
use Rattle.wrapper_parts.specs.Scans.{takes}
use Rattle.wrapper_parts.proofs.Taking.{takes_exact, takes_sound}
use Rattle.wrapper_parts.proofs.Skipping.{taken_needs}
use Rattle.place_wrapper.specs.Forms.{Form, IsNumbered}
use Rattle.place_wrapper.proofs.Causes.{only_cause}
use Rattle.tab_tests.specs.Kept.{no_line, as_held, numbered}
use Rattle.tab_tests.specs.Tabs.{is_plain, is_row, texts, is_table, rows_of, text_of}
use Rattle.tab_tests.specs.declared.tabs.TabTable.{TabTable}

-- every column is of text
abbrev pub all_text : List ColType → Bool
all_text [] = true
all_text (types.Text ∷ kinds) = all_text kinds
all_text (types.Int ∷ kinds) = false
all_text (types.Bool ∷ kinds) = false

-- 42804 where a column is not of text, HV00D for any option
abbrev pub type_objections : Bool → List Cause
type_objections true = []
type_objections false = DatatypeMismatch ∷ []

abbrev pub option_objections : List OptionForm → List Cause
option_objections [] = []
option_objections (o ∷ os) = InvalidOptionName ∷ []

abbrev pub tab_objections : List Column → List OptionForm → List Cause
tab_objections columns settings = type_objections (all_text (kinds_of columns)) ++ option_objections settings

-- HV00A where a content is no table of these columns
abbrev pub reading_of : Bool → List Tuple → Reading
reading_of true rows = record { causes = []; rows = map as_held rows; late = refl }
reading_of false rows = record { causes = InvalidFormat ∷ []; rows = []; late = refl }

abbrev pub tab_reading : List ColType → Option Entry → Reading
tab_reading kinds None = record { causes = TableNotFound ∷ []; rows = []; late = refl }
tab_reading kinds (Some (Stored types rows)) = record { causes = TableNotFound ∷ []; rows = []; late = refl }
tab_reading kinds (Some (Bytes content)) = reading_of (is_table kinds content) (rows_of content)

and_left : (a b : Bool) → (a && b) ≡ true → a ≡ true
and_left true b e = refl
and_left false b e = e

and_right : (a b : Bool) → (a && b) ≡ true → b ≡ true
and_right true b e = e
and_right false true e = refl
and_right false false e = e

both_hold : (a b : Bool) → a ≡ true → b ≡ true → (a && b) ≡ true
both_hold true b ea eb = eb
both_hold false b ea eb = ea

pub rows_fit : (kinds : List ColType) (rows : List Tuple) → list_all (is_row kinds) rows ≡ true → all_fit kinds (map as_held rows) ≡ true
rows_fit kinds [] e = refl
rows_fit kinds (c ∷ cs) e =
    both_hold (row_fits kinds c) (all_fit kinds (map as_held cs))
    (and_left (row_fits kinds c) (list_all is_plain c) (and_left (is_row kinds c) (list_all (is_row kinds) cs) e))
    (rows_fit kinds cs (and_right (is_row kinds c) (list_all (is_row kinds) cs) e))

pub table_fits : (kinds : List ColType) (rows : List Tuple) (a b : Bool) → list_all (is_row kinds) rows ≡ b
    → all_fit kinds (reading_of (a && b) rows).rows ≡ true
table_fits kinds rows false b e = refl
table_fits kinds rows true false e = refl
table_fits kinds rows true true e = rows_fit kinds rows e

pub reading_fits : (kinds : List ColType) (entry : Option Entry) → all_fit kinds (tab_reading kinds entry).rows ≡ true
reading_fits kinds None = refl
reading_fits kinds (Some (Stored types rows)) = refl
reading_fits kinds (Some (Bytes content)) =
    table_fits kinds (rows_of content) (is_utf8 content) (list_all (is_row kinds) (rows_of content)) refl

abbrev pub cells_held : List Held → List Tuple
cells_held rows = map (λ h. h.cells) rows

-- 22P02 where a text that a write leaves has a mark
abbrev pub unwritten : Bool → List Cause
unwritten true = []
unwritten false = InvalidText ∷ []

pub unwritten_of_run : (b : Bool) → list_all (λ c. is_of_run (phase_of c)) (unwritten b) ≡ true
unwritten_of_run true = refl
unwritten_of_run false = refl

abbrev pub tab_refusals : List ColType → Refusals
tab_refusals kinds = record {
  causes = λ entry rows changes. unwritten (list_all (is_row kinds) (cells_held (rows_after no_line rows changes)));
  of_run = λ entry rows changes. unwritten_of_run (list_all (is_row kinds) (cells_held (rows_after no_line rows changes)));
}

abbrev pub tab_image : Option Entry → List Held → Option Entry
tab_image entry rows = Some (Bytes (text_of (cells_held rows)))

abbrev pub tab_kind : Kind
tab_kind = record {
  objections = tab_objections;
  reads = λ columns settings entry. tab_reading (kinds_of columns) entry;
  typed = λ columns settings entry none. reading_fits (kinds_of columns) entry;
  line = λ columns settings. no_line;
  image = λ columns settings. tab_image;
  arrangement = λ columns settings. as_they_come;
  refuses = λ columns settings. tab_refusals (kinds_of columns);
}

abbrev pub bound_by : List ℕ → List ColType → BoxTable
bound_by remote kinds = record {
  remote = remote;
  kinds = kinds;
  allows = λ spec. true;
  allows_plain = λ wanted offered. refl;
  allows_whole = λ spec allowed. refl;
  line = no_line;
  image = tab_image;
  arrangement = as_they_come;
  refuses = tab_refusals kinds;
}

abbrev pub rows_in : TabTable → List TableRow
rows_in t = numbered 0 (map tuple t.rows.items)

pub rows_numbered : (n : ℕ) (rows : List Tuple) → IsNumbered n (numbered n rows)
rows_numbered n [] = tt
rows_numbered n (c ∷ cs) = (refl, rows_numbered (n + 1) cs)

pub rows_typed : (kinds : List ColType) (n : ℕ) (rows : List Tuple)
    → list_all (λ (r : TableRow). row_fits kinds r.cells) (numbered n rows) ≡ all_fit kinds (map as_held rows)
rows_typed kinds n [] = refl
rows_typed kinds n (c ∷ cs) = ap (λ (b : Bool). row_fits kinds c && b) (rows_typed kinds (n + 1) cs)

-- the id of a row is its place. A scan takes what has the parameter that it looks for; the restrictions stay with the caller
abbrev pub tab_form : Form TabTable
tab_form = record {
  kind = tab_kind;
  bound = λ t. bound_by (string_bytes t.remote) (texts t.width);
  rows = rows_in;
  takes = λ t spec params r. takes spec params r.cells;
  answer = λ t f. Ignored;
  fits = λ t entry. Unit {0};
  fits_once = λ t entry a b. refl;
  somewhere = λ t. (None, tt);
  allows = λ t spec. refl;
  numbered = λ t. rows_numbered 0 (map tuple t.rows.items);
  typed = λ t. rows_typed (texts t.width) 0 (map tuple t.rows.items) ∙ rows_fit (texts t.width) (map tuple t.rows.items) t.plain;
  exact = λ t spec params r e. takes_exact spec params r.cells e;
  sound = λ t spec params k d within e. takes_sound spec params _ e;
  seeks = λ t spec params r s e h. taken_needs spec params s e r h;
  absent = λ columns settings none. only_cause TableNotFound 5 refl;
}
