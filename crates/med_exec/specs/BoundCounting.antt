-- How many scans the run of a bound query begins in the boxes.
use Rattle.std.specs.Prelude.{◌≡◌, ◌≤◌, ◌+◌, ℕ, false, nat_eq, if◌then◌else◌, List, [], ◌∷◌, map, Option, Some, slice_get}
use Rattle.fdw_api.specs.State.{BoxState}
use Rattle.med_binder.specs.declared.bound.BoundQuery.{BoundQuery}
use Rattle.med_binder.specs.Place.{Place, entry_place}

-- how many of these tables are of the box in this slot, each as often as it stands there
abbrev pub tables_in : ℕ → List Place → ℕ
tables_in slot [] = 0
tables_in slot (place ∷ places) = (if nat_eq place.source slot then 1 else 0) + tables_in slot places

-- One scan for each entry: FROM of one core has it, once.
abbrev pub scans_of : BoundQuery → ℕ → ℕ
scans_of bound slot = tables_in slot (map entry_place bound.entries.items)

-- no more scans than these were begun in the box of each slot: told of boxes whose refused calls use no numbers up
abbrev pub BeginsAtMost : (ℕ → ℕ) → List (Option BoxState) → List (Option BoxState) → Type 0
BeginsAtMost count old new =
    (slot : ℕ) (s t : BoxState) → slice_get old slot ≡ Some (Some s) → slice_get new slot ≡ Some (Some t) → s.nature.skips ≡ false
    → t.ledger.next ≤ s.ledger.next + count slot
