-- A scan of a table of two columns of text, that was offered `name = $1` and goes on through several rounds of parameters.
use Rattle.std.specs.Prelude.{◌≡◌, ℕ, false, List, [], ◌∷◌, Some}
use Rattle.med_value.specs.declared.order.Comparison.TheVariants as comparisons
use Rattle.fdw_api.specs.Prelude.{RestrictionForm, Compares, Slot, BoxState, BoxTable, Scan, table_of, scan_of}
use Rattle.tab_tests.specs.Tabs.{texts}

-- `name = $1`
abbrev pub by_name : List RestrictionForm
by_name = record { column = 0; test = Compares comparisons.Equal (Slot 0) } ∷ []

-- a live scan that is not broken and was offered that, of a bound table of two columns of text: it may begin again by any text
pub record IsGoing (s : BoxState) (number : ℕ) : Type 0 where
  pub scan : Scan
  pub at : scan_of s number ≡ Some scan
  pub whole : scan.broken ≡ false
  pub asked : scan.spec.offered ≡ by_name
  pub bound : BoxTable
  pub is : table_of s scan.table ≡ Some bound
  pub typed : bound.kinds ≡ texts 2

-- a bound table of two columns of text
abbrev pub IsTabTable : BoxState → ℕ → Type 0
IsTabTable s t = (bound : BoxTable) × (table_of s t ≡ Some bound) × (bound.kinds ≡ texts 2)
