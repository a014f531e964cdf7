-- First columns that rise, and changes after which they still do.
use Rattle.std.specs.Prelude.{◌≡◌, ◌≤◌, ◌<◌, ℕ, ℤ, List, [], ◌∷◌, map, FitsSigned}
use Rattle.std.specs.Int.{w64}
use Rattle.med_value.specs.Datum.{Datum, Whole, cell}
use Rattle.fdw_api.specs.Kinds.{Held, Change, Inserts, Updates, Deletes}
use Rattle.wrapper_parts.specs.Rising.{AreInOrder}
use Rattle.wrapper_parts.specs.Scans.{column_cells}
use Rattle.csv_tables.specs.declared.table.CsvTable.{CsvTable}
use Rattle.csv_tables.specs.Rewriting.{rows_in}

-- the cells of the first column of a table, and of rows
abbrev pub first_column : CsvTable → List Datum
first_column t = column_cells 0 (rows_in t)

abbrev pub first_cells : List Held → List Datum
first_cells rows = map (λ h. cell h.cells 0) rows

-- a cell is this integer of 64 bits
pub record IsKey (d : Datum) (key : ℤ) : Type 0 where
  pub is : d ≡ Whole key
  pub fits : FitsSigned w64 key

-- the cells before a place rise, and none of them is over a key
pub record RiseUpTo (cells : List Datum) (key : ℤ) (at : ℕ) : Type 0 where
  pub fits : FitsSigned w64 key
  pub rise : (one other : ℕ) → one ≤ other → other < at → AreInOrder (cell cells one) (cell cells other)
  pub below : (one : ℕ) → one < at → AreInOrder (cell cells one) (Whole key)

-- changes keep the first cell of each row that they change, and the first cells of the rows that they insert rise from this one on
abbrev pub KeepRising : List Datum → Datum → List Change → Type 0
KeepRising cells low [] = Unit {0}
KeepRising cells low (Inserts x ∷ cs) = AreInOrder low (cell x 0) × (AreInOrder (cell x 0) (cell x 0) × KeepRising cells (cell x 0) cs)
KeepRising cells low (Updates id x ∷ cs) = (cell x 0 ≡ cell cells id) × KeepRising cells low cs
KeepRising cells low (Deletes id ∷ cs) = KeepRising cells low cs
