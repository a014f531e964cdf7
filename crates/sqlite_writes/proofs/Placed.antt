-- A row that has its place in a table has as many cells as the table has columns.
use Rattle.std.proofs.Common.{◌≡◌, ◌∙◌, true, ◌&&◌, List, [], ◌∷◌, map, length, suc, refl, sym, ap}
use Rattle.std.proofs.lemmas.Bool.{and_parts}
use Rattle.std.proofs.lemmas.List.{length-map}
use Rattle.med_value.specs.Prelude.{Tuple, datum}
use Rattle.med_value.specs.declared.value.ColType.{ColType}
use Rattle.med_value.specs.declared.value.Value.{Value}
use Rattle.fdw_api.specs.Prelude.{row_fits, has_kind, is_clean}
use Rattle.sqlite_tables.specs.Prelude.{Layout, kinds_in}
use Rattle.sqlite_writes.specs.Rewriting.{has_place}

pub width : (kinds : List ColType) (vs : Tuple) → row_fits kinds vs ≡ true → length vs ≡ length kinds
width [] [] fits = refl
width [] (v ∷ vs) fits = absurd cc
width (k ∷ ks) [] fits = absurd cc
width (k ∷ ks) (v ∷ vs) fits = ap suc (width ks vs (and_parts (has_kind k v && is_clean v) (row_fits ks vs) fits).1)

pub as_wide : (l : Layout) (cells : List Value) → has_place l (map datum cells) ≡ true → length cells ≡ length l.columns
as_wide l cells h =
    sym (length-map cells datum) ∙ width (kinds_in l) (map datum cells) (and_parts _ _ h).0 ∙ length-map l.columns (λ c. c.kind)
