-- What an index is.
use Rattle.std.specs.Prelude.{◌≡◌, ◌+◌, ◌<◌, ℕ, true, false, List, Option, None, unwrap_or, length, drop, get_or}
use Rattle.std.specs.Ordering.{int_eq}
use Rattle.std.specs.HashMap as hash
use Rattle.med_value.specs.Datum.{Datum, NoValue, Whole, Chars, Logic, cell}
use Rattle.wrapper_parts.specs.declared.index.Firsts.{Firsts}
use Rattle.wrapper_parts.specs.declared.index.PlaceIndex.{PlaceIndex}
use Rattle.wrapper_parts.specs.Places.{first_place}

-- the first place of a value, as it is held
abbrev pub first_of : Firsts → Datum → Option ℕ
first_of f NoValue = None
first_of f (Whole n) = hash.get int_eq f.whole n
first_of f (Chars t) = hash.get_by_text f.texts t
first_of f (Logic true) = f.trues
first_of f (Logic false) = f.falses

-- the same, and the number of all cells where the value has none
abbrev pub start_of : PlaceIndex → Datum → ℕ
start_of x v = unwrap_or (first_of x.firsts v) (length x.next.items)

-- an index has these cells, which stand from n on to the end: it knows the first place of each value, and behind each place the next one of
-- an equal cell
pub record IsIndexFrom (n : ℕ) (cells : List Datum) (x : PlaceIndex) : Type 0 where
  pub size : n + length cells ≡ length x.next.items
  pub firsts : (v : Datum) → start_of x v ≡ first_place n v cells
  pub nexts : (k : ℕ) → k < length cells → get_or x.next.items (n + k) 0 ≡ first_place (n + k + 1) (cell cells k) (drop (k + 1) cells)
