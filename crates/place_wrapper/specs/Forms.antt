-- What a kind of file makes of its tables, and what the calls of such a table say. SQL/MED leaves to a wrapper what a foreign table is of;
-- here it is a blob that is read whole when the table is bound, and the id of a row is its place.
use Rattle.std.specs.Prelude.{◌≡◌, ◌+◌, ℕ, Bool, true, false, List, [], ◌∷◌, map, Option, Some, None, slice_get, Contains, All}
use Rattle.std.specs.List.{list_all}
use Rattle.med_value.specs.Prelude.{phase_of, Datum, Tuple, tuple, cell}
use Rattle.med_value.specs.declared.cause.Cause.TheVariants.{TableNotFound}
use Rattle.med_value.specs.declared.value.Row.{Row}
use Rattle.fdw_api.specs.Prelude.{Spec, RestrictionForm, TableRow, meets_exact, meets_all, shown_cells, row_fits, Kind, Column, OptionForm, Entry, Bytes, Change, held, kinds_of, is_late, is_of_run, BoxTable, IsLeast, rows_after}
use Rattle.fdw_api.specs.declared.scan.Agree.{Agree}
use Rattle.fdw_api.specs.declared.interface.Fault.{Fault}
use Rattle.fdw_api.specs.declared.interface.Fault.TheVariants.{NoMemory, Source, Refused}
use Rattle.wrapper_parts.specs.Places.{equals}
use Rattle.wrapper_parts.specs.Scans.{SoughtForm, sought}

-- the ids of rows are their places, the first of which is n
abbrev pub IsNumbered : ℕ → List TableRow → Type 0
IsNumbered n [] = Unit {0}
IsNumbered n (r ∷ rs) = (r.id ≡ n) × IsNumbered (n + 1) rs

-- what a table of a format is: its kind; as what it is bound; its rows; which of them a scan takes; what is answered to a restriction; and
-- whether what else it keeps is what stands in an entry
pub record Form (T : Type 0) : Type 1 where
  pub kind : Kind
  pub bound : T → BoxTable
  pub rows : T → List TableRow
  pub takes : T → Spec → Tuple → TableRow → Bool
  pub answer : T → RestrictionForm → Agree
  pub fits : T → Option Entry → Type 0
  -- whether it is, is a fact
  pub fits_once : (t : T) (entry : Option Entry) → IsProp (fits t entry)
  -- there is an entry that it is in
  pub somewhere : (t : T) → (entry : Option Entry) × fits t entry
  -- every scan is allowed
  pub allows : (t : T) (spec : Spec) → (bound t).allows spec ≡ true
  -- rows have their places as ids, and values of their columns' types
  pub numbered : (t : T) → IsNumbered 0 (rows t)
  pub typed : (t : T) → list_all (λ r. row_fits (bound t).kinds r.cells) (rows t) ≡ true
  -- what a scan takes meets what was answered Exact, what it does not take of them fails an offered restriction, and it takes no row
  -- without what it looks for
  pub exact : (t : T) (spec : Spec) (params : Tuple) (r : TableRow) → takes t spec params r ≡ true
      → meets_exact spec.offered spec.answers params r.cells ≡ true
  pub sound : (t : T) (spec : Spec) (params : Tuple)
      → All (λ r. takes t spec params r ≡ false → meets_all spec.offered params r.cells ≡ false) (rows t)
  pub seeks : (t : T) (spec : Spec) (params : Tuple) (r : TableRow) (s : SoughtForm) → sought spec.offered ≡ Some s
      → equals (cell params s.parameter) (cell r.cells s.column) ≡ false → takes t spec params r ≡ false
  -- what is not there is told as that
  pub absent : (columns : List Column) (settings : List OptionForm) → kind.objections columns settings ≡ []
      → IsLeast (kind.reads columns settings None).causes TableNotFound

-- the row at a place is given as it is shown where the scan takes it, and else not
abbrev pub GivesAt : {T : Type 0} → Form T → T → Spec → Tuple → ℕ → Option Row → Type 0
GivesAt F t spec params at None = (r : TableRow) → slice_get (F.rows t) at ≡ Some r → F.takes t spec params r ≡ false
GivesAt F t spec params at (Some row) = (r : TableRow) → slice_get (F.rows t) at ≡ Some r
    → (F.takes t spec params r ≡ true) × (tuple row ≡ shown_cells spec r.cells)

-- the row at a place has what is looked for
abbrev pub HasAt : {T : Type 0} → Form T → T → SoughtForm → Tuple → ℕ → Type 0
HasAt F t s params at = (r : TableRow) → slice_get (F.rows t) at ≡ Some r → equals (cell params s.parameter) (cell r.cells s.column) ≡ true

-- the cell of a column of the row at a place
abbrev pub CellAt : {T : Type 0} → Form T → T → ℕ → ℕ → Datum → Type 0
CellAt F t at column v = (r : TableRow) → slice_get (F.rows t) at ≡ Some r → v ≡ cell r.cells column

-- a table that was read from the content of a blob
pub record ReadsAs {T : Type 0} (F : Form T) (remote : List ℕ) (columns : List Column) (settings : List OptionForm)
    (content : List ℕ) (t : T) : Type 0 where
  pub remote_is : (F.bound t).remote ≡ remote
  pub kinds_are : (F.bound t).kinds ≡ kinds_of columns
  pub line_is : (F.bound t).line ≡ F.kind.line columns settings
  pub image_is : (F.bound t).image ≡ F.kind.image columns settings
  pub arrangement_is : (F.bound t).arrangement ≡ F.kind.arrangement columns settings
  pub refuses_is : (F.bound t).refuses ≡ F.kind.refuses columns settings
  pub no_cause : (F.kind.reads columns settings (Some (Bytes content))).causes ≡ []
  pub rows : map held (F.rows t) ≡ (F.kind.reads columns settings (Some (Bytes content))).rows
  pub fits : F.fits t (Some (Bytes content))

-- a content that is refused: a cause of least phase that stands against it, or want of memory
abbrev pub RefusesContent : {T : Type 0} → Form T → List Column → List OptionForm → List ℕ → Fault → Type 0
RefusesContent F columns settings content NoMemory = Unit {0}
RefusesContent F columns settings content Source = ⊥
RefusesContent F columns settings content (Refused c) =
    (is_late (phase_of c) ≡ true) × IsLeast (F.kind.reads columns settings (Some (Bytes content))).causes c

-- a table after changes, and its image: where the table fits what stands there
pub record Rewrites {T : Type 0} (F : Form T) (t : T) (changes : List Change) (u : T) (image : List ℕ) : Type 0 where
  pub bound : F.bound u ≡ F.bound t
  pub rows : map held (F.rows u) ≡ (F.bound t).arrangement.arranged (rows_after (F.bound t).line (F.rows t) changes)
  pub no_cause : (entry : Option Entry) → F.fits t entry → (F.bound t).refuses.causes entry (F.rows t) changes ≡ []
  pub image_is : (entry : Option Entry) → F.fits t entry → (F.bound t).image entry (map held (F.rows u)) ≡ Some (Bytes image)
  pub fits : F.fits u (Some (Bytes image))

-- a table that shows what another shows, and fits what that one fits
pub record Same {T : Type 0} (F : Form T) (t u : T) : Type 0 where
  pub bound : F.bound u ≡ F.bound t
  pub rows : F.rows u ≡ F.rows t
  pub fits : (entry : Option Entry) → F.fits t entry → F.fits u entry

-- a draft of a table: kept, it is the table after changes, and given up the table as it was
pub record Drafts {T : Type 0} (F : Form T) (t : T) (changes : List Change) (makes leaves : T → Type 0) (image : List ℕ) : Type 0 where
  pub kept : (u : T) → makes u → Rewrites F t changes u image
  pub given_up : (u : T) → leaves u → Same F t u

-- changes that are refused: a cause of the run that stands for them, or want of memory
abbrev pub RefusesChanges : {T : Type 0} → Form T → T → List Change → Fault → Type 0
RefusesChanges F t changes NoMemory = Unit {0}
RefusesChanges F t changes Source = ⊥
RefusesChanges F t changes (Refused c) = (is_of_run (phase_of c) ≡ true)
    × ((entry : Option Entry) → F.fits t entry → Contains ((F.bound t).refuses.causes entry (F.rows t) changes) c)
