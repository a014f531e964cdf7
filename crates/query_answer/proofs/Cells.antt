-- The cells of an output that waits: what it shows, and behind that what it is sorted by.
use Rattle.std.proofs.Common.{◌≡◌, ◌-◌, ℕ, List, map, take, drop, length, sym, arith}
use Rattle.std.proofs.lemmas.List.{take_all, length-drop, drop-map, take-map}
use Rattle.med_value.specs.Datum.{datum}
use Rattle.med_value.specs.declared.value.Value.{Value}

-- some of the cells
pub cells_from : (n : ℕ) (cells : List Value) → map datum (drop n cells) ≡ drop n (map datum cells)
cells_from n cells = sym (drop-map datum n cells)

pub last_cells : (n : ℕ) (cells : List Value) → take (length cells - n) (drop n cells) ≡ drop n cells
last_cells n cells = let l = length-drop n cells in take_all (length cells - n) (drop n cells) (omega (arith, l))

pub cells_below : (n : ℕ) (cells : List Value) → map datum (take n cells) ≡ take n (map datum cells)
cells_below n cells = sym (take-map datum n cells)
