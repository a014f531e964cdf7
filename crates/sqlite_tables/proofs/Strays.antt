-- Cells that are of no value of their column.
use Rattle.std.proofs.Common.{◌≡◌, ℕ, Bool, true, false, if◌then◌else◌, List, Some, IsUtf8, refl}
use Rattle.std.specs.Str.{is_utf8}
use Rattle.std.proofs.lemmas.Str.{IsUtf8-from_is_utf8}
use Rattle.sqlite.specs.declared.types.Value.TheVariants.{Text}
use Rattle.med_value.specs.Datum.{Chars, Logic}
use Rattle.med_value.specs.declared.value.ColType.TheVariants as types
use Rattle.fdw_api.specs.Scan.{cell_fits}
use Rattle.sqlite_tables.specs.Cells.{cell_of}

pub stray_text : (bs : List ℕ) → (IsUtf8 bs → ⊥) → cell_fits (Some types.Text) (cell_of types.Text (Text bs)) ≡ false
stray_text bs bad = go (is_utf8 bs) refl
  where
    go : (b : Bool) → is_utf8 bs ≡ b → cell_fits (Some types.Text) (if b then Chars bs else Logic false) ≡ false
    go true e = absurd (bad (IsUtf8-from_is_utf8 bs e))
    go false e = refl
