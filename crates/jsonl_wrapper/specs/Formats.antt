-- JSON lines as a format of tables whose rows have places: a row for each line.
use Rattle.std.specs.Prelude.{◌≡◌, ◌+◌, ℕ, true, List, [], ◌∷◌, map, Option, Some, None, slice_get}
use Rattle.std.specs.String.{string_bytes}
use mathlib.Core.Path.{refl}
use Rattle.std.specs.List.{list_all}
use Rattle.med_value.specs.declared.cause.Cause.TheVariants.{TableNotFound}
use Rattle.med_value.specs.declared.value.ColType.{ColType}
use Rattle.med_value.specs.declared.value.ColType.TheVariants as types
use Rattle.fdw_api.specs.Prelude.{TableRow, RestrictionForm, TestForm, Compares, Missing, Present, row_fits, as_they_come, BoxTable}
use Rattle.fdw_api.specs.declared.scan.Agree.{Agree}
use Rattle.fdw_api.specs.declared.scan.Agree.TheVariants.{Exact, Ignored}
use Rattle.wrapper_parts.specs.Scans.{takes}
use Rattle.wrapper_parts.proofs.Taking.{takes_exact, takes_sound}
use Rattle.wrapper_parts.proofs.Skipping.{taken_needs}
use Rattle.place_wrapper.specs.Forms.{Form, IsNumbered}
use Rattle.place_wrapper.proofs.Causes.{only_cause}
use Rattle.jsonl_wrapper.specs.Fields.{Reader}
use Rattle.jsonl_wrapper.specs.Objects.{json_of}
use Rattle.jsonl_wrapper.specs.Contents.{cells_fit, both_hold, json_line}
use Rattle.jsonl_wrapper.specs.Tables.{numbered, readers_in, lines_in, kinds_in, rows_in}
use Rattle.jsonl_wrapper.specs.Jsonl.{json_kind, json_image, json_refusals}
use Rattle.jsonl_wrapper.specs.declared.table.JsonTable.{JsonTable}

-- a table as it is bound: it allows every scan
abbrev pub bound_of : JsonTable → BoxTable
bound_of t = record {
  remote = string_bytes t.remote;
  kinds = kinds_in t;
  allows = λ spec. true;
  allows_plain = λ wanted offered. refl;
  allows_whole = λ spec allowed. refl;
  line = json_line (readers_in t);
  image = json_image;
  arrangement = as_they_come;
  refuses = json_refusals (readers_in t);
}

-- the answer to a restriction: Exact to a NULL test and to any test of an integer column
abbrev pub answer_on : Option ColType → TestForm → Agree
answer_on kind Missing = Exact
answer_on kind Present = Exact
answer_on (Some types.Int) (Compares op other) = Exact
answer_on (Some types.Text) (Compares op other) = Ignored
answer_on (Some types.Bool) (Compares op other) = Ignored
answer_on None (Compares op other) = Ignored

abbrev pub answer_to : List ColType → RestrictionForm → Agree
answer_to kinds f = answer_on (slice_get kinds f.column) f.test

pub lines_numbered : (readers : List Reader) (n : ℕ) (lines : List (List ℕ)) → IsNumbered n (numbered readers n lines)
lines_numbered readers n [] = tt
lines_numbered readers n (l ∷ ls) = (refl, lines_numbered readers (n + 1) ls)

pub lines_typed : (readers : List Reader) (n : ℕ) (lines : List (List ℕ))
    → list_all (λ (r : TableRow). row_fits (map (λ f. f.kind) readers) r.cells) (numbered readers n lines) ≡ true
lines_typed readers n [] = refl
lines_typed readers n (l ∷ ls) = both_hold _ _ (cells_fit readers (json_of l)) (lines_typed readers (n + 1) ls)

-- the id of a row is the place of its line. A scan takes what has the parameter that it looks for and meets what was answered Exact; what
-- else a table keeps says nothing of its blob
abbrev pub json_form : Form JsonTable
json_form = record {
  kind = json_kind;
  bound = bound_of;
  rows = rows_in;
  takes = λ t spec params r. takes spec params r.cells;
  answer = λ t f. answer_to (kinds_in t) f;
  fits = λ t entry. Unit {0};
  fits_once = λ t entry a b. refl;
  somewhere = λ t. (None, tt);
  allows = λ t spec. refl;
  numbered = λ t. lines_numbered (readers_in t) 0 (lines_in t);
  typed = λ t. lines_typed (readers_in t) 0 (lines_in t);
  exact = λ t spec params r e. takes_exact spec params r.cells e;
  sound = λ t spec params k d within e. takes_sound spec params _ e;
  seeks = λ t spec params r s e h. taken_needs spec params s e r h;
  absent = λ columns settings none. only_cause TableNotFound 5 refl;
}
