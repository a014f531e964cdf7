-- Of which tables the scans are that a run holds.
use Rattle.std.specs.Prelude.{◌≡◌, ℕ, List, Option, Some, Contains}
use Rattle.fdw_api.specs.Prelude.{Scan, BoxState, scan_of, IsTableOf}
use Rattle.med_binder.specs.Place.{Place}
use Rattle.med_exec.specs.declared.running.Run.{Run}
use Rattle.med_exec.specs.Slots.{BoxAt}
use Rattle.med_exec.specs.Rests.{held}

-- a live scan of the box in this slot is of one of these tables, which is bound, with its columns' types
pub record ScansOne (places : List Place) (slot number : ℕ) (s : BoxState) : Type 0 where
  pub scan : Scan
  pub live : scan_of s number ≡ Some scan
  pub place : Place
  pub is_one : Contains places place
  pub source : place.source ≡ slot
  pub table : place.table ≡ scan.table
  pub bound : IsTableOf s scan.table scan.kinds

-- each scan that a run holds is live, and of one of these tables
abbrev pub HoldsOf : List Place → Run → List (Option BoxState) → Type 0
HoldsOf places run boxes = (slot number : ℕ) → Contains (held run slot) number → BoxAt boxes slot (ScansOne places slot number)
