-- First columns that rise.
use Rattle.std.specs.Prelude.{◌≡◌, ◌≤◌, ◌<◌, ◌&&◌, not, ℕ, Bool, true, false, List, length, map}
use Rattle.std.specs.Ordering.{is_lt, int_cmp}
use Rattle.med_value.specs.Datum.{Datum, NoValue, Whole, Chars, Logic, cell}
use Rattle.fdw_api.specs.Kinds.{Held}
use Rattle.jsonl_wrapper.specs.Written.{is_i64}
use Rattle.jsonl_wrapper.specs.Fields.{Reader}
use Rattle.jsonl_wrapper.specs.Objects.{cells_at}

-- what the first column reads in lines, NULL where there is no column, and the first cells of rows
abbrev pub first_column : List Reader → List (List ℕ) → List Datum
first_column readers lines = map (λ line. cell (cells_at readers line) 0) lines

abbrev pub first_cells : List Held → List Datum
first_cells rows = map (λ h. cell h.cells 0) rows

-- two cells are integers of 64 bits, and the second is not less than the first
abbrev pub are_in_order : Datum → Datum → Bool
are_in_order NoValue d = false
are_in_order (Chars t) d = false
are_in_order (Logic b) d = false
are_in_order (Whole low) NoValue = false
are_in_order (Whole low) (Chars t) = false
are_in_order (Whole low) (Logic b) = false
are_in_order (Whole low) (Whole high) = is_i64 low && not (is_lt (int_cmp high low))

-- cells that rise, by these tests: each is in order with itself and with those behind it
abbrev pub AreTold : List Datum → Type 0
AreTold cells = (at later : ℕ) → at ≤ later → later < length cells → are_in_order (cell cells at) (cell cells later) ≡ true
