-- Places at which cells that rise are parted by a key.
use Rattle.std.specs.Prelude.{◌≡◌, ◌≤◌, ◌<◌, ℕ, ℤ, Bool, true, false, List, length}
use Rattle.std.specs.Ordering.{is_lt, int_cmp}
use Rattle.med_value.specs.Datum.{Datum, NoValue, Whole, Chars, Logic, cell}
use Rattle.wrapper_parts.specs.declared.ranges.KeyRange.{KeyRange}
use Rattle.wrapper_parts.specs.Ranges.{has_key}

-- a cell is an integer below a key
abbrev pub is_under : ℤ → Datum → Bool
is_under key NoValue = false
is_under key (Whole n) = is_lt (int_cmp n key)
is_under key (Chars t) = false
is_under key (Logic b) = false

-- a cell is an integer that a range has
abbrev pub is_in : KeyRange → Datum → Bool
is_in range NoValue = false
is_in range (Whole n) = has_key range n
is_in range (Chars t) = false
is_in range (Logic b) = false

-- the cells before a place are below a key, and those from it on are not
pub record Parts (cells : List Datum) (key : ℤ) (at : ℕ) : Type 0 where
  pub within : at ≤ length cells
  pub before : (k : ℕ) → k < at → is_under key (cell cells k) ≡ true
  pub behind : (k : ℕ) → at ≤ k → k < length cells → is_under key (cell cells k) ≡ false

-- no cell from a place on is in a range up to a key
pub record IsBeyond (cells : List Datum) (high : ℤ) (end : ℕ) : Type 0 where
  pub within : end ≤ length cells
  pub behind : (k : ℕ) (range : KeyRange) → end ≤ k → k < length cells → range.high ≡ high → is_in range (cell cells k) ≡ false

-- no cell before a first place is in a range, and none from an end on
pub record IsAround (cells : List Datum) (range : KeyRange) (first end : ℕ) : Type 0 where
  pub within : end ≤ length cells
  pub before : (k : ℕ) → k < first → is_in range (cell cells k) ≡ false
  pub behind : (k : ℕ) → end ≤ k → k < length cells → is_in range (cell cells k) ≡ false
