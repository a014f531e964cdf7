-- Cells that rise, by tests, which are what a table holds of them.
use Rattle.std.specs.Prelude.{◌≡◌, ◌≤◌, ◌<◌, ◌&&◌, not, ℕ, Bool, true, false, List, length}
use Rattle.std.specs.Ordering.{is_lt, int_cmp}
use Rattle.med_value.specs.Datum.{Datum, NoValue, Whole, Chars, Logic, cell}
use Rattle.csv_tables.specs.Rewriting.{is_i64}

-- two cells are integers of 64 bits, and the second is not less than the first
abbrev pub are_in_order : Datum → Datum → Bool
are_in_order NoValue d = false
are_in_order (Chars t) d = false
are_in_order (Logic b) d = false
are_in_order (Whole low) NoValue = false
are_in_order (Whole low) (Chars t) = false
are_in_order (Whole low) (Logic b) = false
are_in_order (Whole low) (Whole high) = is_i64 low && not (is_lt (int_cmp high low))

-- cells that rise: each is in order with itself and with those behind it
abbrev pub AreTold : List Datum → Type 0
AreTold cells = (at later : ℕ) → at ≤ later → later < length cells → are_in_order (cell cells at) (cell cells later) ≡ true
