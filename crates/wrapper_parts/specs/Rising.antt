-- Columns that rise.
use Rattle.std.specs.Prelude.{◌≡◌, ◌≤◌, ◌<◌, ◌≤ℤ◌, ℕ, ℤ, List, length, FitsSigned}
use Rattle.std.specs.Int.{w64}
use Rattle.med_value.specs.Datum.{Datum, Whole, cell}

-- two cells are integers of 64 bits, and the second is not less than the first
pub record AreInOrder (first second : Datum) : Type 0 where
  pub low : ℤ
  pub high : ℤ
  pub first_is : first ≡ Whole low
  pub second_is : second ≡ Whole high
  pub fits : FitsSigned w64 low
  pub order : low ≤ℤ high

-- cells that rise: they are integers of 64 bits, none less than one before it
abbrev pub AreRising : List Datum → Type 0
AreRising cells = (at later : ℕ) → at ≤ later → later < length cells → AreInOrder (cell cells at) (cell cells later)
