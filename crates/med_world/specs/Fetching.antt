-- What FETCH and CLOSE do to the boxes, and why FETCH fails (SQL:2016, <fetch statement>, <close statement>; PostgreSQL: Writing a
-- Foreign Data Wrapper, IterateForeignScan, EndForeignScan).
use Rattle.std.specs.Prelude.{◌≡◌, ◌<◌, ◌≤◌, ◌+◌, ◌-◌, ◌^◌, ◌⊎◌, ℕ, zero, suc, min, Bool, false, nat_le, List, [], ◌++◌, length, Option, Some}
use Rattle.med_value.specs.Datum.{Tuple}
use Rattle.med_value.specs.declared.cause.Cause.{Cause}
use Rattle.med_value.specs.declared.cause.Cause.TheVariants.{OutOfMemory, SourceFault}
use Rattle.fdw_api.specs.State.{BoxState}
use Rattle.fdw_api.specs.declared.interface.Fault.{Fault}
use Rattle.fdw_api.specs.declared.interface.Fault.TheVariants.{NoMemory, Source, Refused}
use Rattle.med_syntax.specs.CursorTree.{CountTree, some_rows, all_rows}
use Rattle.scan_loops.specs.Running.{HonestFor}
use Rattle.med_exec.specs.declared.running.Run.{Run}
use Rattle.med_exec.specs.Prelude.{ServesRun, SlotShows, HasFailed, KeepTables, levels_in, slot_in, skip_in, limit_in, pulled_at, PullsAtMost, PullsNone, many_in, IsBareRun, pulls_left}
use Rattle.med_exec.specs.Rests.{Rests, held, IsRunning}

-- so many are as many as were asked for
abbrev pub has_enough : CountTree → ℕ → Bool
has_enough (some_rows n) given = nat_le n given
has_enough all_rows given = false

-- so many are no more than were asked for
abbrev pub IsWithin : CountTree → ℕ → Type 0
IsWithin (some_rows n) given = given ≤ n
IsWithin all_rows given = Unit {0}

-- so many rows are as many as were asked for, or fewer, which are all that were left
abbrev pub AreEnough : CountTree → List Tuple → (List Tuple → Type 0) → Type 0
AreEnough (some_rows n) rows rests = (length rows ≡ n) ⊎ ((length rows < n) × rests rows)
AreEnough all_rows rows rests = rests rows

-- A run gave rows: followed by what it may give then, they are what it could give before, where the boxes of its scans are honest. It holds
-- the scans that it held, of the tables that they were of.
pub record GivesRows (run : Run) (asked : CountTree) (old : List (Option BoxState)) (rows : List Tuple) (after : Run)
    (new : List (Option BoxState)) : Type 0 where
  pub served : ServesRun (held run) (held after) old new
  pub same : held after ≡ held run
  pub tables : KeepTables (held run) old new
  pub running : IsRunning after new
  pub some : HonestFor (levels_in run) old → (left : List Tuple) × Rests after new left
  pub gives : HonestFor (levels_in run) old → (left : List Tuple) → Rests after new left → Rests run old (rows ++ left)
  pub enough : HonestFor (levels_in run) old → AreEnough asked rows (Rests run old)

-- A run was asked for a row so many times. One that holds its answer asks the boxes for no row. Of one over one table of whose rows nothing
-- is checked again, that table's box gives no more than OFFSET passes and one each time, and no other box gives any; what it gives is taken
-- off what OFFSET passes, and off what LIMIT leaves, before the next FETCH.
pub record PullsFor (times : ℕ) (run : Run) (old : List (Option BoxState)) (after : Run) (new : List (Option BoxState)) : Type 0 where
  pub same : levels_in after ≡ levels_in run
  pub none : levels_in run ≡ [] → PullsNone old new
  pub most : IsBareRun (levels_in run) → PullsAtMost (many_in (slot_in run) (skip_in run + times)) old new
  pub passed : IsBareRun (levels_in run) → skip_in after ≤ skip_in run
  pub offset : IsBareRun (levels_in run) → pulled_at new (slot_in run) + skip_in after ≤ pulled_at old (slot_in run) + (skip_in run + times)
  pub limit : IsBareRun (levels_in run) → (n : ℕ) → limit_in run ≡ Some n
      → (m : ℕ) × (limit_in after ≡ Some m)
      × (pulled_at new (slot_in run) + pulls_left (skip_in after) m ≤ pulled_at old (slot_in run) + pulls_left (skip_in run) n)

-- a count, so many times more, as far as it goes: to 2^64 - 1
abbrev pub counted : ℕ → ℕ → ℕ
counted before zero = before
counted before (suc times) = min (before + suc times) (2 ^ 64 - 1)

-- a count has risen, or stands at its end
abbrev pub HasRisen : ℕ → ℕ → Type 0
HasRisen before after = (before < after) ⊎ (after ≡ 2 ^ 64 - 1)

-- FETCH asks for a row no more often than for so many rows, at least once where it asks for any, and each time is counted.
pub record PullsFetched (asked : CountTree) (run : Run) (old : List (Option BoxState)) (before : ℕ) (after : Run)
    (new : List (Option BoxState)) (later : ℕ) : Type 0 where
  pub times : ℕ
  pub within : IsWithin asked times
  pub some : has_enough asked 0 ≡ false → 0 < times
  pub pulls : PullsFor times run old after new
  pub counts : later ≡ counted before times

-- A run was asked for no more rows than these, and closed. Of one over one table of whose rows nothing is checked again, that table's box
-- gave no more than OFFSET passes and one each time, and no other box gave any.
pub record PullsEnded (asked : CountTree) (run : Run) (old new : List (Option BoxState)) : Type 0 where
  pub times : ℕ
  pub within : IsWithin asked times
  pub most : IsBareRun (levels_in run) → PullsAtMost (many_in (slot_in run) (skip_in run + times)) old new

-- the cause that a fault of a box is told by
abbrev pub cause_of : Fault → Cause
cause_of NoMemory = OutOfMemory
cause_of Source = SourceFault
cause_of (Refused c) = c

-- why it gave none, once it was asked for a row: memory was refused, or a source failed
pub data GivesNone (c : Cause) (old new : List (Option BoxState)) : Type 0 where
  no_memory : c ≡ OutOfMemory → GivesNone c old new
  box_fails : c ≡ SourceFault → SlotShows old new HasFailed → GivesNone c old new
