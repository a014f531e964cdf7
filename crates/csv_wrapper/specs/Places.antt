-- A CSV table as a table of rows at places.
use Rattle.std.specs.Prelude.{◌≡◌, ◌+◌, ◌&&◌, ℕ, Bool, true, false, List, [], ◌∷◌, map, Option}
use Rattle.std.specs.List.{list_all}
use Rattle.std.proofs.Common.{true≢false}
use Rattle.std.specs.String.{string_bytes}
use mathlib.Core.Path.{refl, ap, sym, ◌∙◌}
use Rattle.med_value.specs.Datum.{Tuple}
use Rattle.med_value.specs.declared.cause.Cause.TheVariants.{TableNotFound}
use Rattle.fdw_api.specs.Prelude.{TableRow, Spec, row_fits, meets_all, meets_exact, Entry}
use Rattle.csv_tables.specs.declared.table.CsvTable.{CsvTable}
use Rattle.csv_tables.specs.CsvRecords.{Record, heading}
use Rattle.csv_tables.specs.Shapes.{Shape, records_in}
use Rattle.csv_tables.specs.Flat.{header_in}
use Rattle.csv_tables.specs.Tables.{shape_is, records_of, numbered}
use Rattle.csv_tables.specs.Rewriting.{rows_in}
use Rattle.csv_tables.specs.Scans.{comes, answer_by}
use Rattle.csv_tables.proofs.ScanLaws.{taken_meets, rows_sound}
use Rattle.csv_tables.proofs.Headers.{header_once, header_of_entry}
use Rattle.wrapper_parts.specs.Scans.{SoughtForm, sought, has_sought}
use Rattle.wrapper_parts.proofs.Taking.{takes_sound}
use Rattle.place_wrapper.specs.Forms.{Form, IsNumbered}
use Rattle.place_wrapper.proofs.Causes.{only_cause}
use Rattle.csv_wrapper.specs.CsvKind.{csv_kind, record_fits}
use Rattle.csv_wrapper.specs.Bound.{bound_of}
use Rattle.csv_wrapper.specs.declared.places.CsvPlaces.{CsvPlaces}

-- a scan takes a row that has what it looks for, and whose record comes: each Exact restriction is true of it, and each Hint may be
abbrev pub takes : Spec → Tuple → TableRow → Bool
takes spec params r = has_sought (sought spec.offered) params r.cells && comes spec.offered spec.answers params r.cells r.origin

-- the header that a table holds is the one that is written where this entry stands
abbrev pub IsHeaded : CsvTable → Option Entry → Type 0
IsHeaded t entry = heading t.layout.header (map string_bytes t.layout.names.items) (records_in entry) ≡ header_in t.header

pub records_numbered : (shape : Shape) (n : ℕ) (rs : List Record) → IsNumbered n (numbered shape n rs)
records_numbered shape n [] = tt
records_numbered shape n (r ∷ rs) = (refl, records_numbered shape (n + 1) rs)

pub records_typed : (shape : Shape) (n : ℕ) (rs : List Record)
    → list_all (λ (r : TableRow). row_fits shape.kinds r.cells) (numbered shape n rs) ≡ true
records_typed shape n [] = refl
records_typed shape n (r ∷ rs) =
    ap (λ b. b && list_all (λ (r : TableRow). row_fits shape.kinds r.cells) (numbered shape (n + 1) rs))
    (record_fits shape.null shape.kinds r)
    ∙ records_typed shape (n + 1) rs

-- where two tests are both met, the second is; where they are not, the first is not or the second is not
pub second_met : (a b : Bool) → (a && b) ≡ true → b ≡ true
second_met true b e = e
second_met false b e = absurd (true≢false (sym e))

pub one_unmet : {P : Type 0} (a b : Bool) → (a ≡ false → P) → (b ≡ false → P) → (a && b) ≡ false → P
one_unmet true b f g e = g e
one_unmet false b f g e = f refl

-- a row without what a scan looks for does not meet all restrictions
pub lacking_fails : (spec : Spec) (params cells : Tuple) → has_sought (sought spec.offered) params cells ≡ false
    → meets_all spec.offered params cells ≡ false
lacking_fails spec params cells e = takes_sound spec params cells (ap (λ b. b && meets_exact spec.offered spec.answers params cells) e)

abbrev pub csv_form : Form CsvPlaces
csv_form = record {
  kind = csv_kind;
  bound = λ t. bound_of t.table;
  rows = λ t. rows_in t.table;
  takes = λ t spec params r. takes spec params r;
  answer = λ t f. answer_by t.table.layout.kinds.items f;
  fits = λ t entry. IsHeaded t.table entry;
  fits_once = λ t entry. header_once t.table.layout.header (map string_bytes t.table.layout.names.items) entry (header_in t.table.header);
  somewhere = λ t.
      header_of_entry t.table.layout.header (map string_bytes t.table.layout.names.items) (header_in t.table.header) t.table.headed;
  allows = λ t spec. refl;
  numbered = λ t. records_numbered (shape_is t.table.layout) 0 (records_of t.table.rows);
  typed = λ t. records_typed (shape_is t.table.layout) 0 (records_of t.table.rows);
  exact = λ t spec params r e. taken_meets r.cells r.origin spec.offered spec.answers params (second_met _ _ e);
  sound = λ t spec params k d within. one_unmet _ _ (lacking_fails spec params _)
      (rows_sound (shape_is t.table.layout) (records_of t.table.rows) spec params k d within);
  seeks = λ t spec params r s e lacks.
      ap (λ (o : Option SoughtForm). has_sought o params r.cells && comes spec.offered spec.answers params r.cells r.origin) e
      ∙ ap (λ b. b && comes spec.offered spec.answers params r.cells r.origin) lacks;
  absent = λ columns settings none. only_cause TableNotFound 5 refl;
}
