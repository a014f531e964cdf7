-- Changes after which a first column that rises still does.
use Rattle.std.specs.Prelude.{◌≡◌, ◌≤◌, ◌<◌, ℕ, ℤ, List, [], ◌∷◌, length, FitsSigned}
use Rattle.std.specs.Int.{w64}
use Rattle.med_value.specs.Datum.{Datum, Whole, cell}
use Rattle.fdw_api.specs.Kinds.{Change, Inserts, Updates, Deletes}
use Rattle.wrapper_parts.specs.Rising.{AreInOrder, AreRising}

-- a cell is this integer of 64 bits
pub record IsKey (d : Datum) (key : ℤ) : Type 0 where
  pub is : d ≡ Whole key
  pub fits : FitsSigned w64 key

-- the cells before a place rise, and none of them is over a key
pub record RiseUpTo (cells : List Datum) (key : ℤ) (at : ℕ) : Type 0 where
  pub fits : FitsSigned w64 key
  pub rise : (one other : ℕ) → one ≤ other → other < at → AreInOrder (cell cells one) (cell cells other)
  pub below : (one : ℕ) → one < at → AreInOrder (cell cells one) (Whole key)

-- changes keep the first cell of each row that they change, and the first cells of the rows that they insert rise from this one on
abbrev pub KeepRising : List Datum → Datum → List Change → Type 0
KeepRising cells low [] = Unit {0}
KeepRising cells low (Inserts x ∷ cs) = AreInOrder low (cell x 0) × (AreInOrder (cell x 0) (cell x 0) × KeepRising cells (cell x 0) cs)
KeepRising cells low (Updates id x ∷ cs) = (cell x 0 ≡ cell cells id) × KeepRising cells low cs
KeepRising cells low (Deletes id ∷ cs) = KeepRising cells low cs

-- cells rise, and still do after changes: these keep them, and insert none below the last
pub record KeepsRise (cells : List Datum) (changes : List Change) : Type 0 where
  pub last : ℤ
  pub rising : AreRising cells
  pub up : RiseUpTo cells last (length cells)
  pub keep : KeepRising cells (Whole last) changes

-- the first cells of the rows that changes insert
abbrev pub fresh_cells : List Change → List Datum
fresh_cells [] = []
fresh_cells (Inserts x ∷ cs) = cell x 0 ∷ fresh_cells cs
fresh_cells (Updates id x ∷ cs) = fresh_cells cs
fresh_cells (Deletes id ∷ cs) = fresh_cells cs
