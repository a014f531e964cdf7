-- What a run counts in the boxes: the scans that it begins.
use Rattle.std.specs.Prelude.{◌≡◌, ◌+◌, ℕ, List, Option, Some, slice_get}
use Rattle.fdw_api.specs.State.{BoxState}

-- so many scans were begun in the box of each slot: its next number is higher by just so many
abbrev pub BeginsScans : (ℕ → ℕ) → List (Option BoxState) → List (Option BoxState) → Type 0
BeginsScans count old new =
    (slot : ℕ) (s t : BoxState) → slice_get old slot ≡ Some (Some s) → slice_get new slot ≡ Some (Some t)
    → t.ledger.next ≡ s.ledger.next + count slot
