-- Sources that are added to an engine.
use Rattle.std.specs.Prelude.{◌≡◌, ◌<◌, ℕ, List, [], ◌∷◌, ◌++◌, length, Some}
use Rattle.fdw_api.specs.State.{BoxState}
use Rattle.med_catalog.specs.declared.kind.SourceKind.{SourceKind}
use Rattle.med_value.specs.Limits.{source_limit}
use Rattle.med_world.specs.Engine.{Label, Shown, IsNamedAt}

-- a source of this name was added, dropped since or not
abbrev pub HasSource : List Label → List ℕ → Type 0
HasSource labels name = (place : ℕ) × IsNamedAt labels place name

-- what an engine shows with one more source, whose box stands last
abbrev pub with_box : Shown → List ℕ → SourceKind → BoxState → Shown
with_box e name kind box = record e { labels = e.labels ++ record { name = name; kind = kind } ∷ []; boxes = e.boxes ++ Some box ∷ [] }

-- the source is added: its name was free, there was room, and all else is as before
pub record Adds (old : Shown) (name : List ℕ) (kind : SourceKind) (box : BoxState) (new : Shown) : Type 0 where
  pub name_free : HasSource old.labels name → ⊥
  pub room : length old.labels < source_limit
  pub is : new ≡ with_box old name kind box
