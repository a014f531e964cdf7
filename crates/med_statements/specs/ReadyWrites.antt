-- When a write may be asked of the boxes of an engine.
use Rattle.std.specs.Prelude.{◌≡◌, ℕ, List, Option, Some, slice_get}
use Rattle.fdw_api.specs.Prelude.{kinds_of, BoxState, NoScan, IsTableOf, IsSoundBox}
use Rattle.med_exec.specs.Slots.{BoxAt}
use Rattle.med_catalog.specs.Objects.{TableObject, Objects}
use Rattle.med_binder.specs.Places.{Attached}
use Rattle.med_syntax.specs.WriteTree.{WriteTree}
use Rattle.med_world.specs.Prelude.{EachBox, IsUnstaged, IsTargetAt}

-- nothing is staged and each box is sound; and each table of the catalogue is bound, with its columns' types
pub record IsReady (o : Objects) (bound : List Attached) (boxes : List (Option BoxState)) : Type 0 where
  pub unstaged : EachBox IsUnstaged boxes
  pub sound : EachBox IsSoundBox boxes
  pub tables : (k : ℕ) (t : TableObject) (a : Attached) → slice_get o.tables k ≡ Some t → slice_get bound k ≡ Some a
      → BoxAt boxes a.source (λ s. IsTableOf s a.number (kinds_of t.columns))

-- no scan of the table that is written is live
abbrev pub IsUnread : Objects → List Attached → WriteTree → List (Option BoxState) → Type 0
IsUnread o bound t boxes =
    (at : Attached) (s : BoxState) → IsTargetAt o bound t at → slice_get boxes at.source ≡ Some (Some s) → NoScan s at.number
