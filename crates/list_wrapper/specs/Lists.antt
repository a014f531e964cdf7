-- List sources: tables of rows in memory, and what binding one gives.
use Rattle.std.specs.Prelude.{◌≡◌, ℕ, Bool, true, false, not, ◌&&◌, List, [], ◌∷◌, map, length, Option, Some, None, if◌then◌else◌, nat_lt, bytes_eq}
use mathlib.Core.Path.{ap, ◌∙◌}
use Rattle.std.specs.List.{list_all}
use Rattle.std.specs.String.{string_bytes}
use Rattle.med_value.specs.Prelude.{Tuple, tuple, phase_of, row_limit}
use Rattle.med_value.specs.declared.value.ColType.{ColType}
use Rattle.med_value.specs.declared.value.ColType.TheVariants as types
use Rattle.med_value.specs.declared.cause.Cause.{Cause}
use Rattle.med_value.specs.declared.cause.Cause.TheVariants.{InvalidOptionName, TableNotFound, InvalidDataType, InvalidText, TooLarge}
use Rattle.fdw_api.specs.Prelude.{row_fits, Kind, OptionForm, Entry, Bytes, Stored, Known, Held, Reading, Refusals, kinds_of, all_fit, as_they_come, is_of_run, BoxState, IsIdle, is_honest, rows_after}
use Rattle.list_wrapper.specs.declared.list.ListTable.{ListTable}

-- a table of a list source: its name, the types of its columns and its rows
pub record Listed : Type 0 where
  pub name : List ℕ
  pub kinds : List ColType
  pub rows : List Tuple

abbrev pub listed : ListTable → Listed
listed t = record { name = string_bytes t.name; kinds = t.kinds.items; rows = map tuple t.rows.items }

-- no two tables have one name
abbrev pub names_differ : List Listed → Bool
names_differ [] = true
names_differ (t ∷ ts) = list_all (λ u. not (bytes_eq t.name u.name)) ts && names_differ ts

-- each row is of its table's types, and no text has U+0000
abbrev pub rows_fit : List Listed → Bool
rows_fit tables = list_all (λ t. list_all (row_fits t.kinds) t.rows) tables

-- what stands under a remote name: the types and rows of the table of this name
abbrev pub entry_of : List Listed → List ℕ → Option Entry
entry_of [] name = None
entry_of (t ∷ ts) name = if bytes_eq t.name name then Some (Stored t.kinds t.rows) else entry_of ts name

-- the only option of a list table is `table`, its remote name: each further one is HV00D. Columns have none.
-- What every kind objects to, as a column declared twice, is not a list's own objection.
abbrev pub list_objections : List OptionForm → List Cause
list_objections [] = []
list_objections (s ∷ ss) = InvalidOptionName ∷ []

abbrev pub same_type : ColType → ColType → Bool
same_type types.Int types.Int = true
same_type types.Text types.Text = true
same_type types.Bool types.Bool = true
same_type a b = false

-- as many columns, each of the same type
abbrev pub types_match : List ColType → List ColType → Bool
types_match [] [] = true
types_match [] (y ∷ ys) = false
types_match (x ∷ xs) [] = false
types_match (x ∷ xs) (y ∷ ys) = same_type x y && types_match xs ys

-- the rows of a list have no lines
abbrev pub without_lines : List Tuple → List Held
without_lines rows = map (λ r. record { cells = r; origin = [] }) rows

-- 22P02 where a cell is not of its column's type, or has U+0000; else the rows
abbrev pub typed_reading : Bool → List Tuple → Reading
typed_reading true rows = record { causes = []; rows = without_lines rows; late = mathlib.Core.Path.refl }
typed_reading false rows = record { causes = InvalidText ∷ []; rows = []; late = mathlib.Core.Path.refl }

-- HV00R where there is no list table of the name, HV004 where the number or types of the columns are not its own; their names are free
abbrev pub list_reading : List ColType → Option Entry → Reading
list_reading declared None = record { causes = TableNotFound ∷ []; rows = []; late = mathlib.Core.Path.refl }
list_reading declared (Some (Bytes content)) = record { causes = TableNotFound ∷ []; rows = []; late = mathlib.Core.Path.refl }
list_reading declared (Some (Stored own rows)) =
    if types_match own declared then typed_reading (list_all (row_fits declared) rows) rows
    else record { causes = InvalidDataType ∷ []; rows = []; late = mathlib.Core.Path.refl }

-- rows that are read fit the columns
pub lines_fit : (kinds : List ColType) (rows : List Tuple) → all_fit kinds (without_lines rows) ≡ list_all (row_fits kinds) rows
lines_fit kinds [] = mathlib.Core.Path.refl
lines_fit kinds (r ∷ rs) = ap (λ b. row_fits kinds r && b) (lines_fit kinds rs)

pub typed_fit : (kinds : List ColType) (rows : List Tuple) (b : Bool)
    → list_all (row_fits kinds) rows ≡ b → all_fit kinds (typed_reading b rows).rows ≡ true
typed_fit kinds rows true e = lines_fit kinds rows ∙ e
typed_fit kinds rows false e = mathlib.Core.Path.refl

pub stored_fit : (kinds : List ColType) (rows : List Tuple) (b : Bool)
    → all_fit kinds (if b then typed_reading (list_all (row_fits kinds) rows) rows
    else record { causes = InvalidDataType ∷ []; rows = []; late = mathlib.Core.Path.refl }).rows ≡ true
stored_fit kinds rows true = typed_fit kinds rows (list_all (row_fits kinds) rows) mathlib.Core.Path.refl
stored_fit kinds rows false = mathlib.Core.Path.refl

pub list_fits : (kinds : List ColType) (entry : Option Entry) → all_fit kinds (list_reading kinds entry).rows ≡ true
list_fits kinds None = mathlib.Core.Path.refl
list_fits kinds (Some (Bytes content)) = mathlib.Core.Path.refl
list_fits kinds (Some (Stored own rows)) = stored_fit kinds rows (types_match own kinds)

-- a list keeps no lines
abbrev pub no_line : Tuple → List (List ℕ)
no_line cells = []

-- a written table has its types and these rows
abbrev pub list_image : List ColType → Option Entry → List Held → Option Entry
list_image declared entry rows = Some (Stored declared (map (λ r. r.cells) rows))

abbrev pub size_causes : Bool → List Cause
size_causes true = TooLarge ∷ []
size_causes false = []

pub size_is_of_run : (b : Bool) → list_all (λ c. is_of_run (phase_of c)) (size_causes b) ≡ true
size_is_of_run true = mathlib.Core.Path.refl
size_is_of_run false = mathlib.Core.Path.refl

-- a write is refused by 54000 alone, where it would leave more than 1,000,000 rows
abbrev pub list_refusals : Refusals
list_refusals = record {
  causes = λ entry rows changes. size_causes (nat_lt row_limit (length (rows_after no_line rows changes)));
  of_run = λ entry rows changes. size_is_of_run (nat_lt row_limit (length (rows_after no_line rows changes)));
}

abbrev pub list_kind : Kind
list_kind = record {
  objections = λ columns settings. list_objections settings;
  reads = λ columns settings entry. list_reading (kinds_of columns) entry;
  typed = λ columns settings entry none. list_fits (kinds_of columns) entry;
  line = λ columns settings. no_line;
  image = λ columns settings. list_image (kinds_of columns);
  arrangement = λ columns settings. as_they_come;
  refuses = λ columns settings. list_refusals;
}

-- a new list source of these tables: honest, nothing bound, live or staged, nothing counted, and each table under its name
pub record IsNewList (s : BoxState) (tables : List Listed) : Type 0 where
  pub kind : s.nature.kind ≡ list_kind
  pub honest : is_honest s
  pub idle : IsIdle s
  pub next : s.ledger.next ≡ 0
  pub pulled : s.ledger.pulled ≡ 0
  pub faults : s.ledger.faults ≡ 0
  pub holdings : (remote : List ℕ) → s.content.holdings remote ≡ Known (entry_of tables remote)
