-- Rows that are held in runs, one behind the other.
use Rattle.std.specs.Prelude.{◌≡◌, ◌<◌, ◌+◌, ◌-◌, ◌^◌, ℕ, List, [], ◌∷◌, ◌++◌, length, min, zero, suc}
use Rattle.std.specs.Vec.{vec_len, vec_capacity}
use Rattle.med_value.specs.declared.value.Row.{Row}
use Rattle.list_wrapper.specs.declared.runs.Run.{Run}
use Rattle.list_wrapper.specs.declared.runs.Spot.{Spot}

-- rows, and how many more of them there is room for
pub record RowList : Type 0 where
  pub items : List Row
  pub room : ℕ

-- the rows of all runs
abbrev pub rows_in : List Run → List Row
rows_in [] = []
rows_in (r ∷ rs) = r.rows.items ++ rows_in rs

-- the rows of the run at a place, none where there is no run
abbrev pub run_rows : List Run → ℕ → List Row
run_rows [] k = []
run_rows (r ∷ rs) zero = r.rows.items
run_rows (r ∷ rs) (suc k) = run_rows rs k

-- how many rows there are before the run at a place
abbrev pub before : List Run → ℕ → ℕ
before [] k = 0
before (r ∷ rs) zero = 0
before (r ∷ rs) (suc k) = length r.rows.items + before rs k

-- each run, behind so many rows, is marked with how many there are up to its end
abbrev pub Counted : ℕ → List Run → Type 0
Counted n [] = Unit {0}
Counted n (r ∷ rs) = (r.end ≡ n + length r.rows.items) × Counted r.end rs

-- a row's place among all rows is that of a place in a run
pub record IsSpot (runs : List Run) (place : ℕ) (s : Spot) : Type 0 where
  pub there : s.run < length runs
  pub within : s.at < length (run_rows runs s.run)
  pub is : before runs s.run + s.at ≡ place

-- how many more rows the last run has room for, as far as they can be counted
abbrev pub room_of : Run → ℕ
room_of r = min (vec_capacity r.rows - vec_len r.rows) (2 ^ 64 - 1 - r.end)

abbrev pub room_in : List Run → ℕ
room_in [] = 0
room_in (r ∷ []) = room_of r
room_in (r ∷ s ∷ rs) = room_in (s ∷ rs)
