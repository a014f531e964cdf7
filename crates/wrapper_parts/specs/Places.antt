-- The places of the cells that are equal to a value.
use Rattle.std.specs.Prelude.{◌≡◌, ◌+◌, ◌<◌, ℕ, Bool, true, if◌then◌else◌, List, [], ◌∷◌, length}
use Rattle.med_value.specs.Prelude.{Datum, cell, compares_true}
use Rattle.med_value.specs.declared.order.Comparison.TheVariants as comparisons

-- a cell is equal to a value, where `cell = value` is true (SQL:2016, <comparison predicate>): it is unknown where either is NULL, so NULL
-- is equal to nothing
abbrev pub equals : Datum → Datum → Bool
equals v c = compares_true comparisons.Equal c v

-- the places of the cells that are equal to a value, in order, where the first cell stands at n
abbrev pub places_from : ℕ → Datum → List Datum → List ℕ
places_from n v [] = []
places_from n v (c ∷ cs) = if equals v c then n ∷ places_from (n + 1) v cs else places_from (n + 1) v cs

abbrev pub places : Datum → List Datum → List ℕ
places = places_from 0

-- the first of them, and the place behind the last cell where there is none
abbrev pub first_place : ℕ → Datum → List Datum → ℕ
first_place n v [] = n
first_place n v (c ∷ cs) = if equals v c then n else first_place (n + 1) v cs

-- before a place there is no cell, or the cell before it is equal to a value
abbrev pub Follows : Datum → List Datum → ℕ → Type 0
Follows v cells at = (k : ℕ) → at ≡ k + 1 → (k < length cells) × (equals v (cell cells k) ≡ true)
