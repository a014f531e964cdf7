-- Where the tables of a catalogue are bound: one place for each table, in the order of the tables.
use Rattle.std.specs.Prelude.{◌≡◌, ℕ, List, [], ◌∷◌, Some, slice_get}
use Rattle.med_binder.specs.Place.{Place}
use Rattle.med_binder.specs.declared.bound_table.BoundTable.{BoundTable}

-- the place of the table's source, and the table's number in the source's box
pub record Attached : Type 0 where
  pub source : ℕ
  pub number : ℕ

abbrev pub attached : BoundTable → Attached
attached t = record { source = t.source; number = t.number.number }

-- the table in this place of the catalogue: where its rows are
pub record IsPlaceOf (bound : List Attached) (k : ℕ) (place : Place) : Type 0 where
  pub at : Attached
  pub there : slice_get bound k ≡ Some at
  pub source : place.source ≡ at.source
  pub number : place.table ≡ at.number

-- of each entry
abbrev pub ArePlaces : List Attached → List ℕ → List Place → Type 0
ArePlaces bound [] [] = Unit {0}
ArePlaces bound (k ∷ ks) (p ∷ ps) = IsPlaceOf bound k p × ArePlaces bound ks ps
ArePlaces bound [] (p ∷ ps) = ⊥
ArePlaces bound (k ∷ ks) [] = ⊥
