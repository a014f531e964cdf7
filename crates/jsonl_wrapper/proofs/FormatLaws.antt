-- Tables of JSON lines as tables by place: their rows, and the causes against contents and changes.
use Rattle.std.proofs.Common.{◌≡◌, ℕ, ◌+◌, ◌<◌, ◌≤◌, Bool, true, false, ◌&&◌, ◌++◌, List, [], ◌∷◌, Option, Some, None, length, map, get_or, slice_get, Contains, zero, suc, refl, ap, sym, ◌∙◌, arith, rules, string_bytes}
use Rattle.std.specs.List.{list_all}
use Rattle.med_value.specs.Prelude.{phase_of, Tuple, tuple}
use Rattle.med_value.specs.declared.cause.Cause.{Cause}
use Rattle.med_value.specs.declared.cause.Cause.TheVariants.{NotInState, TooLarge, InvalidFormat, InvalidText}
use Rattle.fdw_api.specs.Prelude.{Spec, shown_cells, Column, OptionForm, Bytes, Held, held, Change, as_they_come, is_of_run, is_late, BoxTable, rows_after, IsLeast}
use Rattle.wrapper_parts.specs.Scans.{takes}
use Rattle.med_value.specs.declared.value.Row.{Row}
use Rattle.fdw_api.specs.declared.interface.Fault.{Fault}
use Rattle.fdw_api.specs.declared.interface.Fault.TheVariants.{NoMemory, Source, Refused}
use Rattle.jsonl_wrapper.specs.declared.table.JsonTable.{JsonTable}
use Rattle.jsonl_wrapper.specs.declared.lines.Span.{Span}
use Rattle.jsonl_wrapper.specs.Lines.{lines_at, content_lines, text_of}
use Rattle.jsonl_wrapper.specs.declared.fields.Field.{Field}
use Rattle.jsonl_wrapper.specs.Fields.{Reader, reader_of, readers_of}
use Rattle.jsonl_wrapper.specs.Objects.{is_object, is_typed}
use Rattle.jsonl_wrapper.specs.Contents.{where_true, is_too_large, content_causes, ContentRefused, WriteRefused, json_line, row_at, rows_of_lines, lines_held, write_causes}
use Rattle.jsonl_wrapper.specs.Tables.{numbered, readers_in, lines_in, rows_in, row_cells}
use Rattle.jsonl_wrapper.proofs.WholeLaws.{cells_are}
use Rattle.jsonl_wrapper.proofs.RewriteLaws.{lines_back}
use Rattle.jsonl_wrapper.specs.Jsonl.{json_image, kinds_are, json_refusals}
use Rattle.place_wrapper.specs.Forms.{GivesAt, ReadsAs, RefusesContent, Rewrites, RefusesChanges}
use Rattle.jsonl_wrapper.specs.Formats.{json_form}

some_inj : {A : Type 0} (a b : A) → Some a ≡ Some b → a ≡ b
some_inj a b q = cc

pub rows_length : (readers : List Reader) (n : ℕ) (content : List ℕ) (spans : List Span) → length (numbered readers n (lines_at content spans)) ≡ length spans
rows_length readers n content [] = refl
rows_length readers n content (s ∷ spans) = ap (λ (k : ℕ). suc k) (rows_length readers (n + 1) content spans)

both : (a b : Bool) → (a && b) ≡ true → (a ≡ true) × (b ≡ true)
both true b e = (refl, e)
both false b e = absurd cc

-- a content that was read shows no cause
pub no_causes : (readers : List Reader) (content : List ℕ) → is_too_large (length (content_lines content)) (length content) ≡ false
    → list_all is_object (content_lines content) ≡ true → list_all (is_typed readers) (content_lines content) ≡ true → content_causes readers content ≡ []
no_causes readers content a b c = rw (a, b, c) refl

-- the rows of lines, without their places
pub held_numbered : (readers : List Reader) (n : ℕ) (ls : List (List ℕ)) → map held (numbered readers n ls) ≡ rows_of_lines readers ls
held_numbered readers n [] = refl
held_numbered readers n (l ∷ ls) = ap (λ (rows : List Held). row_at readers l ∷ rows) (held_numbered readers (n + 1) ls)

member_passes : (test : Cause → Bool) (cs : List Cause) (c : Cause) (k : ℕ) → list_all test cs ≡ true → k < length cs → get_or cs k c ≡ c → test c ≡ true
member_passes test [] c k all lt e = absurd (omega arith)
member_passes test (d ∷ cs) c zero all lt e = ap test (sym e) ∙ (both (test d) _ all).0
member_passes test (d ∷ cs) c (suc k) all lt e = member_passes test cs c k (both (test d) _ all).1 (omega arith) e

-- the type of a column is that of its field
pub kind_there : (fs : List Field) (i : ℕ) (f : Field) → i < length fs → f ≡ get_or fs i f
    → slice_get (map (λ r. r.kind) (map reader_of fs)) i ≡ Some f.kind
kind_there [] i f lt e = absurd (omega arith)
kind_there (x ∷ fs) zero f lt e = ap (λ (z : Field). Some z.kind) (sym e)
kind_there (x ∷ fs) (suc i) f lt e = kind_there fs i f (omega arith) e

pub kind_none : (fs : List Field) (i : ℕ) → length fs ≤ i → slice_get (map (λ r. r.kind) (map reader_of fs)) i ≡ None
kind_none [] i le = refl
kind_none (x ∷ fs) zero le = absurd (omega arith)
kind_none (x ∷ fs) (suc i) le = kind_none fs i (omega arith)

-- what the cells of a row tell of it
pub given_there : (t : JsonTable) (spec : Spec) (params : Tuple) (at : ℕ) (row : Row) → true ≡ takes spec params (row_cells t at)
    → tuple row ≡ shown_cells spec (row_cells t at) → GivesAt json_form t spec params at (Some row)
given_there t spec params at row e shows r is =
    (ap (takes spec params) (sym (cells_are t at r is)) ∙ sym e, shows ∙ ap (shown_cells spec) (cells_are t at r is))

pub left_there : (t : JsonTable) (spec : Spec) (params : Tuple) (at : ℕ) → false ≡ takes spec params (row_cells t at)
    → GivesAt json_form t spec params at None
left_there t spec params at e r is = ap (takes spec params) (sym (cells_are t at r is)) ∙ sym e

all_of_run : (large object typed : Bool) → list_all (λ c. is_of_run (phase_of c)) (where_true large TooLarge ++ (where_true object InvalidFormat ++ where_true typed InvalidText)) ≡ true
all_of_run true true true = refl
all_of_run true true false = refl
all_of_run true false true = refl
all_of_run true false false = refl
all_of_run false true true = refl
all_of_run false true false = refl
all_of_run false false true = refl
all_of_run false false false = refl

phase_six : (o : Option ℕ) → is_of_run o ≡ true → o ≡ Some 6
phase_six None e = absurd cc
phase_six (Some p) e = ap Some (search rules)

least_of : (cs : List Cause) (c : Cause) → list_all (λ d. is_of_run (phase_of d)) cs ≡ true → Contains cs c → (is_late (phase_of c) ≡ true) × IsLeast cs c
least_of cs c all (k, lt, e) = (
  late (phase_of c) (six c k lt e),
  record {
    stands = (k, lt, e);
    phase = 6;
    has = six c k lt e;
    least = λ d p is d_has. let same = some_inj p 6 (sym d_has ∙ six d is.0 is.1 is.2) in omega arith;
  },
)
  where
    six : (d : Cause) (j : ℕ) → j < length cs → get_or cs j d ≡ d → phase_of d ≡ Some 6
    six d j lt e = phase_six (phase_of d) (member_passes (λ d. is_of_run (phase_of d)) cs d j all lt e)

    late : (o : Option ℕ) → o ≡ Some 6 → is_late o ≡ true
    late o e = rw e refl

pub content_refused : (columns : List Column) (settings : List OptionForm) (content : List ℕ) (fault : Fault) → ContentRefused (readers_of columns settings) content fault → RefusesContent json_form columns settings content fault
content_refused columns settings content NoMemory c = tt
content_refused columns settings content Source c = c
content_refused columns settings content (Refused cause) c = least_of (content_causes (readers_of columns settings) content) cause (all_of_run _ _ _) c

pub reads_as : (remote : List ℕ) (columns : List Column) (settings : List OptionForm) (t : JsonTable) → string_bytes t.remote ≡ remote → readers_in t ≡ readers_of columns settings
    → lines_in t ≡ content_lines t.content.items → content_causes (readers_of columns settings) t.content.items ≡ [] → ReadsAs json_form remote columns settings t.content.items t
reads_as remote columns settings t er ef el none = record {
  remote_is = er;
  kinds_are = ap (map (λ f. f.kind)) ef ∙ sym (kinds_are 1 columns settings);
  line_is = ap json_line ef;
  image_is = refl;
  arrangement_is = refl;
  refuses_is = ap json_refusals ef;
  no_cause = none;
  rows = held_numbered (readers_in t) 0 (lines_in t) ∙ ap (λ (fs : List Reader). rows_of_lines fs (lines_in t)) ef ∙ ap (rows_of_lines (readers_of columns settings)) el;
  fits = tt;
}

passes : (cs : List Cause) (c : Cause) → Contains cs c → list_all (λ c. is_of_run (phase_of c)) cs ≡ true → is_of_run (phase_of c) ≡ true
passes cs c has all = member_passes (λ c. is_of_run (phase_of c)) cs c has.0 all has.1 has.2

of_run : (wider large : Bool) → list_all (λ c. is_of_run (phase_of c)) (where_true wider NotInState ++ where_true large TooLarge) ≡ true
of_run true true = refl
of_run true false = refl
of_run false true = refl
of_run false false = refl

pub changes_refused : (t : JsonTable) (changes : List Change) (fault : Fault) → WriteRefused (readers_in t) (rows_in t) changes fault → RefusesChanges json_form t changes fault
changes_refused t changes NoMemory why = tt
changes_refused t changes Source why = why
changes_refused t changes (Refused c) why = (passes (where_true _ NotInState ++ where_true _ TooLarge) c why (of_run _ _), λ entry fits. why)

abbrev pub bound_by : List ℕ → List Reader → BoxTable
bound_by remote readers = record {
  remote = remote;
  kinds = map (λ f. f.kind) readers;
  allows = λ spec. true;
  allows_plain = λ wanted offered. refl;
  allows_whole = λ spec allowed. refl;
  line = json_line readers;
  image = json_image;
  arrangement = as_they_come;
  refuses = json_refusals readers;
}

pub rewrites : (t u : JsonTable) (changes : List Change) (image : List ℕ) → string_bytes u.remote ≡ string_bytes t.remote → readers_in u ≡ readers_in t → image ≡ u.content.items
    → u.content.items ≡ text_of (lines_in u) → rows_of_lines (readers_in t) (lines_in u) ≡ rows_after (json_line (readers_in t)) (rows_in t) changes
    → write_causes (readers_in t) (rows_in t) changes ≡ [] → Rewrites json_form t changes u image
rewrites t u changes image er ef ei text rows none =
    let held_new : map held (rows_in u) ≡ rows_of_lines (readers_in u) (lines_in u) = held_numbered (readers_in u) 0 (lines_in u) in
    record {
      bound = ap (λ (r : List ℕ). bound_by r (readers_in u)) er ∙ ap (bound_by (string_bytes t.remote)) ef;
      rows = held_new ∙ ap (λ (fs : List Reader). rows_of_lines fs (lines_in u)) ef ∙ rows;
      no_cause = λ entry fits. none;
      image_is = λ entry fits. ap (λ (c : List ℕ). Some (Bytes c))
          (ap (λ (rs : List Held). text_of (lines_held rs)) held_new ∙ ap text_of (lines_back (readers_in u) (lines_in u)) ∙ sym text ∙ sym ei);
      fits = tt;
    }
