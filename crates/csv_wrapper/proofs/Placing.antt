-- What is read of a blob, and what a write leaves, as tables by place.
use Rattle.std.proofs.Common.{◌≡◌, ◌≢◌, ℕ, ◌+◌, ◌<◌, ◌⊎◌, inl, inr, eqb, Bool, true, false, not, ◌&&◌, nat_eq, nat_le, nat_lt, zero, suc, List, [], ◌∷◌, ◌++◌, length, map, slice_get, Option, Some, None, option_map, Contains, String, Global, string_bytes, refl, ap, sym, ◌∙◌, subst, arith}
use Rattle.std.specs.List.{list_all, list_any, AllByRecursion}
use Rattle.std.proofs.lemmas.Bool.Decides.{eqb_tells}
use Rattle.std.proofs.lemmas.List.Elements.{All-contains, All-from_recursion}
use Rattle.std.proofs.lemmas.Option.{same_Some}
use Rattle.med_value.specs.Prelude.{phase_of, Datum, Tuple, cell, tuple}
use Rattle.med_value.specs.declared.value.Row.{Row}
use Rattle.med_value.specs.declared.order.Comparison.TheVariants as comparisons
use Rattle.med_value.specs.declared.value.ColType.{ColType}
use Rattle.fdw_api.specs.Prelude.{Spec, RestrictionForm, TestForm, Compares, Missing, Present, Given, Slot, TableRow, checks, shown_cells, Column, OptionForm, Bytes, Held, held, Change, is_late, is_of_run, IsLeast, rows_after}
use Rattle.fdw_api.specs.declared.scan.Agree.{Agree}
use Rattle.fdw_api.specs.declared.scan.Agree.TheVariants.{Exact}
use Rattle.med_value.specs.declared.cause.Cause.{Cause}
use Rattle.med_value.specs.declared.cause.Cause.TheVariants.{InvalidFormat, InvalidText, TooLarge}
use Rattle.fdw_api.specs.declared.interface.Fault.{Fault}
use Rattle.fdw_api.specs.declared.interface.Fault.TheVariants.{NoMemory, Source, Refused}
use Rattle.csv_tables.specs.declared.table.CsvTable.{CsvTable}
use Rattle.csv_tables.specs.declared.layout.Layout.{Layout}
use Rattle.csv_tables.specs.declared.draft.TableDraft.{TableDraft}
use Rattle.csv_tables.specs.Cells.{line_of}
use Rattle.csv_tables.specs.CsvRecords.{Record, csv_records, csv_text, heading, body}
use Rattle.csv_tables.specs.Shapes.{Shape, shape_of, read_row, unless, content_causes, csv_image, records_in, all_whole, all_readable, causes_behind, hides_value, rows_text}
use Rattle.csv_tables.specs.Content.{IsContent, TellsCause}
use Rattle.csv_tables.specs.Flat.{header_in}
use Rattle.csv_tables.specs.Tables.{shape_is, records_of, numbered, cells_at, fields_at}
use Rattle.csv_tables.specs.Rewriting.{Rewrites as Remade, rows_in}
use Rattle.csv_tables.specs.Drafted.{ShowsAs, IsLike, IsBefore, IsAfter, records_kept, image_of}
use Rattle.csv_tables.specs.Rises.{first_column}
use Rattle.csv_tables.specs.Scans.{comes}
use Rattle.csv_tables.proofs.Applying.{origins}
use Rattle.csv_tables.proofs.Placing.{row_there, rows_count}
use Rattle.place_wrapper.proofs.Rows.{here}
use Rattle.place_wrapper.specs.Forms.{GivesAt, HasAt, ReadsAs, RefusesContent, Rewrites, Same, Drafts, RefusesChanges}
use Rattle.csv_wrapper.specs.CsvKind.{csv_refusals, unless_of_run, three_of_run}
use Rattle.csv_wrapper.specs.Bound.{bound_by}
use Rattle.csv_wrapper.specs.Rising.{AreTold}
use Rattle.csv_wrapper.specs.Places.{csv_form, takes}
use Rattle.wrapper_parts.specs.Places.{equals}
use Rattle.wrapper_parts.specs.Scans.{column_cells, SoughtForm, sought, sought_of, or_else, has_sought}
use Rattle.csv_wrapper.specs.declared.places.CsvPlaces.{CsvPlaces}

both : (a b : Bool) → (a && b) ≡ true → (a ≡ true) × (b ≡ true)
both true b e = (refl, e)
both false b e = absurd cc

abbrev IsOfRun : Cause → Type 0
IsOfRun c = is_of_run (phase_of c) ≡ true

all_run : (cs : List Cause) → list_all (λ c. is_of_run (phase_of c)) cs ≡ true → AllByRecursion IsOfRun cs
all_run [] e = tt
all_run (c ∷ cs) e = let w = both (is_of_run (phase_of c)) (list_all (λ c. is_of_run (phase_of c)) cs) e in (w.0, all_run cs w.1)

one_run : (cs : List Cause) (c : Cause) → list_all (λ c. is_of_run (phase_of c)) cs ≡ true → Contains cs c → is_of_run (phase_of c) ≡ true
one_run cs c all is = All-contains IsOfRun cs c (All-from_recursion IsOfRun cs (all_run cs all)) is

run_phase : (o : Option ℕ) → is_of_run o ≡ true → o ≡ Some 6
run_phase None e = absurd cc
run_phase (Some p) e = split (eqb_tells 6 p)
  where
    split : ((eqb 6 p ≡ true) × (6 ≡ p)) ⊎ ((eqb 6 p ≡ false) × (6 ≢ p)) → Some p ≡ Some 6
    split (inl w) = ap (λ (n : ℕ). Some n) (sym w.1)
    split (inr w) = absurd (let f = w.0 in cc)

some_same : (p q : ℕ) → Some p ≡ Some q → p ≡ q
some_same p q e = cc

-- causes of one phase are all the least
least_of : (cs : List Cause) (c : Cause) → list_all (λ c. is_of_run (phase_of c)) cs ≡ true → Contains cs c → (is_late (phase_of c) ≡ true) × IsLeast cs c
least_of cs c all is = (
  ap is_late (six c is),
  record {
    stands = is;
    phase = 6;
    has = six c is;
    least = λ d q in_it d_has. (let e = some_same 6 q (sym (six d in_it) ∙ d_has) in omega arith);
  },
)
  where
    six : (d : Cause) → Contains cs d → phase_of d ≡ Some 6
    six d in_it = run_phase (phase_of d) (one_run cs d all in_it)

four_of_run : (a b c d : Bool) → list_all (λ c. is_of_run (phase_of c)) (unless a TooLarge (unless b InvalidFormat (unless c InvalidText (unless d TooLarge [])))) ≡ true
four_of_run a b c d =
    unless_of_run a TooLarge (unless b InvalidFormat (unless c InvalidText (unless d TooLarge []))) refl
    (unless_of_run b InvalidFormat (unless c InvalidText (unless d TooLarge [])) refl
    (unless_of_run c InvalidText (unless d TooLarge []) refl (unless_of_run d TooLarge [] refl refl)))

content_run : (shape : Shape) (bytes : List ℕ) → list_all (λ c. is_of_run (phase_of c)) (content_causes shape bytes) ≡ true
content_run shape bytes =
    four_of_run (nat_le (length bytes) 67108864) (all_whole shape bytes) (all_readable shape bytes) (nat_le (length (body shape.header (csv_records bytes))) 1000000)

-- a content that is refused
pub content_refused : (columns : List Column) (settings : List OptionForm) (shape : Shape) (bytes : List ℕ) (fault : Fault) → shape ≡ shape_of columns settings
    → TellsCause fault (content_causes shape bytes) → RefusesContent csv_form columns settings bytes fault
content_refused columns settings shape bytes NoMemory es told = tt
content_refused columns settings shape bytes Source es told = told
content_refused columns settings shape bytes (Refused c) es told =
    least_of (content_causes (shape_of columns settings) bytes) c (content_run (shape_of columns settings) bytes) (subst (λ (s : Shape). Contains (content_causes s bytes) c) es told)

held_numbered : (shape : Shape) (n : ℕ) (rs : List Record) → map held (numbered shape n rs) ≡ map (read_row shape) rs
held_numbered shape n [] = refl
held_numbered shape n (r ∷ rs) = ap (λ (l : List Held). read_row shape r ∷ l) (held_numbered shape (n + 1) rs)

-- a content that is read
pub reads_as : (remote : List ℕ) (columns : List Column) (settings : List OptionForm) (bytes : List ℕ) (t : CsvPlaces) → string_bytes t.table.remote ≡ remote
    → shape_is t.table.layout ≡ shape_of columns settings → IsContent (shape_is t.table.layout) bytes (header_in t.table.header) (records_of t.table.rows)
    → ReadsAs csv_form remote columns settings bytes t
reads_as remote columns settings bytes t er es content = record {
  remote_is = er;
  kinds_are = ap (λ (s : Shape). s.kinds) es;
  line_is = ap (λ (s : Shape). line_of s.null) es;
  image_is = ap csv_image es;
  arrangement_is = refl;
  refuses_is = ap csv_refusals es;
  no_cause = ap (λ (s : Shape). content_causes s bytes) (sym es) ∙ content.no_cause;
  rows = held_numbered (shape_is t.table.layout) 0 (records_of t.table.rows) ∙ ap (map (read_row (shape_is t.table.layout))) (sym content.rows_are)
      ∙ ap (λ (s : Shape). map (read_row s) (body s.header (csv_records bytes))) es;
  fits = content.header_is;
}

-- changes that are refused
pub changes_refused : (t : CsvPlaces) (changes : List Change) (fault : Fault) → TellsCause fault (causes_behind (shape_is t.table.layout) (header_in t.table.header) (rows_in t.table) changes)
    → RefusesChanges csv_form t changes fault
changes_refused t changes NoMemory told = tt
changes_refused t changes Source told = told
changes_refused t changes (Refused c) told =
    let shape = shape_is t.table.layout in
    let header = header_in t.table.header in
    let after = rows_after (line_of shape.null) (rows_in t.table) changes in (
      one_run (causes_behind shape header (rows_in t.table) changes) c
          (three_of_run (not (list_any (hides_value shape.null) changes)) (nat_le (length after) 1000000) (nat_le (length (rows_text header after)) 67108864)) told,
      λ entry fits. subst (λ (l : List Record). Contains (causes_behind shape l (rows_in t.table) changes) c) (sym fits) told,
    )

-- changes that are made
pub rewrites : (t u : CsvPlaces) (changes : List Change) (header rs : List Record) (image : List ℕ) → string_bytes u.table.remote ≡ string_bytes t.table.remote
    → shape_is u.table.layout ≡ shape_is t.table.layout → header_in u.table.header ≡ header → records_of u.table.rows ≡ rs → Remade t.table changes header rs image
    → Rewrites csv_form t changes u image
rewrites t u changes header rs image er es eh records did =
    let shape = shape_is t.table.layout in
    let rows : map held (rows_in u.table) ≡ map (read_row shape) rs =
    held_numbered (shape_is u.table.layout) 0 (records_of u.table.rows) ∙ ap (λ (s : Shape). map (read_row s) (records_of u.table.rows)) es ∙ ap (map (read_row shape)) records in
    record {
      bound = ap (λ (n : List ℕ). bound_by n (shape_is u.table.layout)) er ∙ ap (bound_by (string_bytes t.table.remote)) es;
      rows = rows ∙ did.rows;
      no_cause = λ entry fits. ap (λ (l : List Record). causes_behind shape l (rows_in t.table) changes) fits ∙ did.no_cause;
      image_is = λ entry fits. ap (λ (b : List ℕ). Some (Bytes b))
          (ap (λ (l : List Record). csv_text (heading shape.header shape.names (records_in entry) ++ l)) (ap (map (λ (r : Held). r.origin)) rows ∙ origins shape rs)
          ∙ ap (λ (l : List Record). csv_text (l ++ rs)) fits ∙ sym did.image_is);
      fits = ap (λ (s : Shape). heading s.header s.names (csv_records image)) es ∙ did.header_is ∙ sym eh;
    }

-- a table that shows the same
pub same_shown : (t u : CsvPlaces) → string_bytes u.table.remote ≡ string_bytes t.table.remote → u.table.layout ≡ t.table.layout
    → header_in u.table.header ≡ header_in t.table.header → records_of u.table.rows ≡ records_of t.table.rows → Same csv_form t u
same_shown t u er el eh records =
    let es : shape_is u.table.layout ≡ shape_is t.table.layout = ap shape_is el in
    record {
      bound = ap (λ (n : List ℕ). bound_by n (shape_is u.table.layout)) er ∙ ap (bound_by (string_bytes t.table.remote)) es;
      rows = ap (λ (s : Shape). numbered s 0 (records_of u.table.rows)) es ∙ ap (numbered (shape_is t.table.layout) 0) records;
      fits = λ entry fits. ap (λ (s : Shape). heading s.header s.names (records_in entry)) es ∙ fits ∙ sym eh;
    }

-- a write that is under way
pub drafts : (t : CsvPlaces) (changes : List Change) (w : TableDraft) → IsBefore w t.table → Remade t.table changes (header_in w.after) (records_kept w.rows) (image_of w)
    → Drafts csv_form t changes (λ u. IsAfter w u.table) (λ u. IsBefore w u.table) (image_of w)
drafts t changes w was did = record {
  kept = λ u is. rewrites t u changes (header_in w.after) (records_kept w.rows) (image_of w) (is.remote_is ∙ sym was.remote_is)
      (ap shape_is (is.layout_is ∙ sym was.layout_is)) is.header_is is.records_are did;
  given_up = λ u is. same_shown t u (is.remote_is ∙ sym was.remote_is) (is.layout_is ∙ sym was.layout_is) (is.header_is ∙ sym was.header_is)
      (is.records_are ∙ sym was.records_are);
}

-- the cells of the first column of a table of these columns and records
pub told_of : (t : CsvTable) (remote : List ℕ) (l : Layout) (header rs : List Record) → ShowsAs t remote l header rs
    → first_column t ≡ column_cells 0 (numbered (shape_is l) 0 rs)
told_of t remote l header rs is =
    ap (λ (s : Shape). column_cells 0 (numbered s 0 (records_of t.rows))) (ap shape_is is.layout_is)
    ∙ ap (λ (x : List Record). column_cells 0 (numbered (shape_is l) 0 x)) is.records_are

pub told_as : (xs ys : List Datum) → AreTold xs → xs ≡ ys → AreTold ys
told_as xs ys told e = subst (λ (l : List Datum). AreTold l) e told

pub told_like : (t u : CsvTable) → IsLike t u → AreTold (first_column t) → AreTold (first_column u)
told_like t u is told = told_as _ _ told (sym (told_of u (string_bytes t.remote) t.layout (header_in t.header) (records_of t.rows) is))

-- a content without causes is of a table with columns
second_clear : (a b : Bool) (more : List Cause) → unless a TooLarge (unless b InvalidFormat more) ≡ [] → b ≡ true
second_clear true true more e = refl
second_clear true false more e = absurd cc
second_clear false b more e = absurd cc

some_of : (n : ℕ) → nat_lt 0 n ≡ true → 0 < n
some_of zero e = absurd cc
some_of (suc n) e = omega arith

pub columns_there : (shape : Shape) (bytes : List ℕ) → content_causes shape bytes ≡ [] → 0 < length shape.kinds
columns_there shape bytes none =
    some_of (length shape.kinds) (both (nat_lt 0 (length shape.kinds)) _ (second_clear (nat_le (length bytes) 67108864) (all_whole shape bytes) _ none)).0

some_names : (names : List (String Global)) (kinds : List ColType) (cs : List Column) → map string_bytes names ≡ map (λ c. c.name) cs → kinds ≡ map (λ c. c.kind) cs
    → 0 < length kinds → 0 < length names
some_names [] kinds [] e k lt = absurd (let l = ap length k in omega arith)
some_names [] kinds (c ∷ cs) e k lt = absurd cc
some_names (n ∷ names) kinds cs e k lt = omega arith

pub names_there : (l : Layout) (columns : List Column) (settings : List OptionForm) → shape_is l ≡ shape_of columns settings → 0 < length l.kinds.items → 0 < length l.names.items
names_there l columns settings e lt = some_names l.names.items l.kinds.items columns (ap (λ (s : Shape). s.names) e) (ap (λ (s : Shape). s.kinds) e) lt

-- the row at a place, by what its record has
pub within_count : (t : CsvTable) (at : ℕ) → at < length (rows_in t) → at < t.rows.count
within_count t at lt = subst (λ (n : ℕ). at < n) (rows_count t) lt

second_fails : (a b : Bool) → b ≡ false → (a && b) ≡ false
second_fails true b e = e
second_fails false b e = refl

pub lacks_row : (t : CsvTable) (at : ℕ) (spec : Spec) (params : Tuple) (o : Option SoughtForm) (r : TableRow) → at < length (rows_in t) → o ≡ sought spec.offered → slice_get (rows_in t) at ≡ Some r
    → has_sought o params (cells_at t at) ≡ false → takes spec params r ≡ false
lacks_row t at spec params o r lt eo is e =
    subst (λ (x : TableRow). takes spec params x ≡ false) (row_there t at r (within_count t at lt) is)
    (ap (λ (q : Option SoughtForm). has_sought q params (cells_at t at) && comes spec.offered spec.answers params (cells_at t at) (fields_at t at)) (sym eo)
    ∙ ap (λ (b : Bool). b && comes spec.offered spec.answers params (cells_at t at) (fields_at t at)) e)

pub fails_row : (t : CsvTable) (at : ℕ) (spec : Spec) (params : Tuple) (r : TableRow) → at < length (rows_in t) → slice_get (rows_in t) at ≡ Some r
    → comes spec.offered spec.answers params (cells_at t at) (fields_at t at) ≡ false → takes spec params r ≡ false
fails_row t at spec params r lt is e =
    subst (λ (x : TableRow). takes spec params x ≡ false) (row_there t at r (within_count t at lt) is) (second_fails (has_sought (sought spec.offered) params (cells_at t at)) _ e)

pub takes_row : (t : CsvTable) (at : ℕ) (spec : Spec) (params : Tuple) (o : Option SoughtForm) (r : TableRow) → at < length (rows_in t) → o ≡ sought spec.offered → slice_get (rows_in t) at ≡ Some r
    → has_sought o params (cells_at t at) ≡ true → comes spec.offered spec.answers params (cells_at t at) (fields_at t at) ≡ true → takes spec params r ≡ true
takes_row t at spec params o r lt eo is h e =
    subst (λ (x : TableRow). takes spec params x ≡ true) (row_there t at r (within_count t at lt) is)
    (ap (λ (q : Option SoughtForm). has_sought q params (cells_at t at) && comes spec.offered spec.answers params (cells_at t at) (fields_at t at)) (sym eo)
    ∙ ap (λ (b : Bool). b && comes spec.offered spec.answers params (cells_at t at) (fields_at t at)) h ∙ e)

pub cells_there : (t : CsvTable) (at : ℕ) (r : TableRow) → at < length (rows_in t) → slice_get (rows_in t) at ≡ Some r → cells_at t at ≡ r.cells
cells_there t at r lt is = ap (λ (x : TableRow). x.cells) (row_there t at r (within_count t at lt) is)

-- a record that comes is given as it is shown
pub shows_row : (t : CsvPlaces) (at : ℕ) (spec : Spec) (params : Tuple) (o : Option SoughtForm) (given : Option Row) → at < length (rows_in t.table) → o ≡ sought spec.offered
    → has_sought o params (cells_at t.table at) ≡ true → comes spec.offered spec.answers params (cells_at t.table at) (fields_at t.table at) ≡ true
    → option_map tuple given ≡ Some (shown_cells spec (cells_at t.table at)) → GivesAt csv_form t spec params at given
shows_row t at spec params o None lt eo h e is = absurd cc
shows_row t at spec params o (Some row) lt eo h e is = λ r there. (
  takes_row t.table at spec params o r lt eo there h e,
  same_Some (tuple row) (shown_cells spec (cells_at t.table at)) is ∙ ap (λ (cells : Tuple). shown_cells spec cells) (cells_there t.table at r lt there),
)

-- the row at a place has what is looked for: so have the cells of its record
pub found_there : (t : CsvPlaces) (at : ℕ) (s : SoughtForm) (params : Tuple) → at < length (rows_in t.table) → HasAt csv_form t s params at
    → equals (cell params s.parameter) (cell (cells_at t.table at) s.column) ≡ true
found_there t at s params lt has =
    let w = here (rows_in t.table) at lt in
    ap (λ (cells : Tuple). equals (cell params s.parameter) (cell cells s.column)) (cells_there t.table at w.0 lt w.1) ∙ has w.0 w.1

-- the one restriction that was offered is true of a row that has what it looks for
tested : (column : ℕ) (check : TestForm) (s : SoughtForm) (params cells : Tuple) → or_else (sought_of column check) None ≡ Some s → equals (cell params s.parameter) (cell cells s.column) ≡ true
    → checks params check (cell cells column) ≡ true
tested column (Compares comparisons.Equal (Slot at)) s params cells e h =
    subst (λ (z : SoughtForm). equals (cell params z.parameter) (cell cells z.column) ≡ true) (sym (one (record { column = column; parameter = at }) s e)) h
  where
    one : (a b : SoughtForm) → Some a ≡ Some b → a ≡ b
    one a b q = cc
tested column (Compares comparisons.Equal (Given v)) s params cells e h = absurd cc
tested column (Compares comparisons.Apart o) s params cells e h = absurd cc
tested column (Compares comparisons.Below o) s params cells e h = absurd cc
tested column (Compares comparisons.AtMost o) s params cells e h = absurd cc
tested column (Compares comparisons.Above o) s params cells e h = absurd cc
tested column (Compares comparisons.AtLeast o) s params cells e h = absurd cc
tested column Missing s params cells e h = absurd cc
tested column Present s params cells e h = absurd cc

pub decided : (fs : List RestrictionForm) (answers : List Agree) (params cells : Tuple) (fields : Record) (s : SoughtForm) → length fs ≡ 1 → slice_get answers 0 ≡ Some Exact → sought fs ≡ Some s
    → equals (cell params s.parameter) (cell cells s.column) ≡ true → comes fs answers params cells fields ≡ true
decided [] answers params cells fields s one e is h = absurd (omega arith)
decided (f ∷ []) [] params cells fields s one e is h = absurd cc
decided (f ∷ []) (a ∷ more) params cells fields s one e is h =
    let exact : a ≡ Exact = cc in
    ap (λ (b : Agree). comes (f ∷ []) (b ∷ more) params cells fields) exact ∙ ap (λ b. b && true) (tested f.column f.test s params cells is h)
decided (f ∷ g ∷ fs) answers params cells fields s one e is h = absurd (omega arith)

pub sole : (n : ℕ) → nat_eq n 1 ≡ true → n ≡ 1
sole n e = split (eqb_tells n 1)
  where
    split : ((eqb n 1 ≡ true) × (n ≡ 1)) ⊎ ((eqb n 1 ≡ false) × (n ≢ 1)) → n ≡ 1
    split (inl w) = w.1
    split (inr w) = absurd (let f = w.0 in cc)
