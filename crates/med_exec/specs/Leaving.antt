-- What is left of the scans that a run holds, by what is done to the boxes besides.
use Rattle.std.specs.Prelude.{◌≡◌, ◌↔◌, ℕ, List, Option, Some, slice_get, Contains}
use Rattle.med_value.specs.Datum.{Tuple}
use Rattle.scan_loops.specs.Running.{HonestFor}
use Rattle.fdw_api.specs.State.{Scan, BoxState, is_honest, table_of, scan_of, rows_of}
use Rattle.med_exec.specs.declared.running.Run.{Run}
use Rattle.med_exec.specs.Slots.{BoxAt}
use Rattle.med_exec.specs.Running.{Held}
use Rattle.med_exec.specs.Pulling.{levels_in}
use Rattle.med_exec.specs.Rests.{Rests, held, IsRunning}

-- no scan is one of both
abbrev pub AreApart : Held → Held → Type 0
AreApart first second = (slot number : ℕ) → Contains (first slot) number → Contains (second slot) number → ⊥

-- a box keeps this scan: its nature, the scan, the table that it is of, and, if honest, the rows to come and those of the table
pub record KeepsScan (number : ℕ) (scan : Scan) (old new : BoxState) : Type 0 where
  pub nature : new.nature ≡ old.nature
  pub live : scan_of new number ≡ Some scan
  pub table : table_of new scan.table ≡ table_of old scan.table
  pub coming : is_honest old → new.content.coming number ≡ old.content.coming number
  pub rows : is_honest old → rows_of new scan.table ≡ rows_of old scan.table

-- where the slot's box had this live scan, the box is there still, and keeps it
abbrev pub LeavesScan : ℕ → ℕ → List (Option BoxState) → List (Option BoxState) → Type 0
LeavesScan slot number old new =
    (s : BoxState) (scan : Scan) → slice_get old slot ≡ Some (Some s) → scan_of s number ≡ Some scan
    → BoxAt new slot (KeepsScan number scan s)

-- so for each scan that the run holds
abbrev pub LeavesRun : Run → List (Option BoxState) → List (Option BoxState) → Type 0
LeavesRun run old new = (slot number : ℕ) → Contains (held run slot) number → LeavesScan slot number old new

-- a run is good for its next row as it was, reads honest boxes where it did, and may then give just the rows that it could give before
pub record GoesOn (run : Run) (old new : List (Option BoxState)) : Type 0 where
  pub running : IsRunning run new
  pub honest : HonestFor (levels_in run) old → HonestFor (levels_in run) new
  pub rests : HonestFor (levels_in run) old → (rows : List Tuple) → Rests run old rows ↔ Rests run new rows

-- each of these scans that is live before and after is of the table that it was of, with its columns' types
abbrev pub KeepTables : Held → List (Option BoxState) → List (Option BoxState) → Type 0
KeepTables own old new =
    (slot number : ℕ) → Contains (own slot) number → (s t : BoxState) → slice_get old slot ≡ Some (Some s)
    → slice_get new slot ≡ Some (Some t) → (was now : Scan) → scan_of s number ≡ Some was → scan_of t number ≡ Some now
    → (now.table ≡ was.table) × (now.kinds ≡ was.kinds)
