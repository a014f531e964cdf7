-- What a remote table gives that is bound with declared columns: causes of refusal, and rows.
use Rattle.std.specs.Prelude.{◌≡◌, Bool, true, false, ◌&&◌, List, [], ◌∷◌, map, length, Option, Some, None, if◌then◌else◌, nat_lt}
use Rattle.std.specs.List.{list_all}
use mathlib.Core.Path.{refl, ap, ◌∙◌, sym, subst}
use Rattle.med_value.specs.Prelude.{Tuple, phase_of, row_limit}
use Rattle.med_value.specs.declared.value.ColType.{ColType}
use Rattle.med_value.specs.declared.cause.Cause.{Cause}
use Rattle.med_value.specs.declared.cause.Cause.TheVariants.{TableNotFound, InvalidDataType, InvalidText, TooLarge}
use Rattle.fdw_api.specs.Prelude.{row_fits, Entry, Bytes, Stored, Held, Reading, all_fit, is_late}
use Rattle.sqlite_tables.specs.Layouts.{types_match}

abbrev pub plain_rows : List Tuple → List Held
plain_rows rows = map (λ r. record { cells = r; origin = [] }) rows

-- 22P02 where a cell is not of its column's type, or has U+0000; 54000 where there are more than 1,000,000 rows
abbrev pub content_causes : Bool → Bool → List Cause
content_causes true true = TooLarge ∷ []
content_causes true false = []
content_causes false true = InvalidText ∷ TooLarge ∷ []
content_causes false false = InvalidText ∷ []

pub content_is_late : (fits big : Bool) → list_all (λ c. is_late (phase_of c)) (content_causes fits big) ≡ true
content_is_late true true = refl
content_is_late true false = refl
content_is_late false true = refl
content_is_late false false = refl

abbrev pub read_rows : Bool → Bool → List Tuple → Reading
read_rows fits big rows = record { causes = content_causes fits big; rows = plain_rows rows; late = content_is_late fits big }

-- HV00R where no such table can be read, HV004 where the number or types of the columns are not its own; their names are free
abbrev pub sqlite_reading : List ColType → Option Entry → Reading
sqlite_reading declared None = record { causes = TableNotFound ∷ []; rows = []; late = refl }
sqlite_reading declared (Some (Bytes content)) = record { causes = TableNotFound ∷ []; rows = []; late = refl }
sqlite_reading declared (Some (Stored own rows)) =
    if types_match own declared then read_rows (list_all (row_fits declared) rows) (nat_lt row_limit (length rows)) rows
    else record { causes = InvalidDataType ∷ []; rows = []; late = refl }

-- rows that are read fit the columns
pub lines_fit : (kinds : List ColType) (rows : List Tuple) → all_fit kinds (plain_rows rows) ≡ list_all (row_fits kinds) rows
lines_fit kinds [] = refl
lines_fit kinds (r ∷ rs) = ap (λ b. row_fits kinds r && b) (lines_fit kinds rs)

-- no cause is no list with a cause
abbrev pub IsEmptyList : List Cause → Type 0
IsEmptyList [] = Unit {0}
IsEmptyList (c ∷ cs) = ⊥

pub read_fit : (kinds : List ColType) (rows : List Tuple) (b big : Bool) → list_all (row_fits kinds) rows ≡ b
    → (read_rows b big rows).causes ≡ []
    → all_fit kinds (read_rows b big rows).rows ≡ true
read_fit kinds rows true big e none = lines_fit kinds rows ∙ e
read_fit kinds rows false true e none = absurd (subst IsEmptyList (sym none) tt)
read_fit kinds rows false false e none = absurd (subst IsEmptyList (sym none) tt)

pub stored_fit : (kinds : List ColType) (rows : List Tuple) (b : Bool)
    → (if b then read_rows (list_all (row_fits kinds) rows) (nat_lt row_limit (length rows)) rows
    else record { causes = InvalidDataType ∷ []; rows = []; late = refl }).causes ≡ []
    → all_fit kinds (if b then read_rows (list_all (row_fits kinds) rows) (nat_lt row_limit (length rows)) rows
    else record { causes = InvalidDataType ∷ []; rows = []; late = refl }).rows ≡ true
stored_fit kinds rows true none =
    read_fit kinds rows (list_all (row_fits kinds) rows) (nat_lt row_limit (length rows)) refl none
stored_fit kinds rows false none = refl

pub sqlite_fits : (kinds : List ColType) (entry : Option Entry) → (sqlite_reading kinds entry).causes ≡ []
    → all_fit kinds (sqlite_reading kinds entry).rows ≡ true
sqlite_fits kinds None none = refl
sqlite_fits kinds (Some (Bytes content)) none = refl
sqlite_fits kinds (Some (Stored own rows)) none = stored_fit kinds rows (types_match own kinds) none
