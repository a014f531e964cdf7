-- Why a rewrite of a table fails: the statement that failed, what the table had when it was run, and the error that was reported.
use Rattle.std.specs.Prelude.{◌≡◌, ◌⊎◌, ◌≤◌, ℕ, ℤ, false, List, [], ◌∷◌, take, slice_get, Some, IsTrue}
use Rattle.sqlite.specs.declared.types.Value.TheVariants as sql
use Rattle.sqlite.specs.Order.{Row as SqlRow}
use Rattle.sqlite.specs.Steps.{FailsToCommit}
use Rattle.sqlite.specs.State.{State, IsRolledBack}
use Rattle.sqlite.specs.Held.{Held, state}
use Rattle.sqlite.specs.declared.error.Error.{Error}
use Rattle.sqlite_trees.specs.declared.store.Store.{Ghosts}
use Rattle.med_value.specs.Prelude.{Tuple}
use Rattle.fdw_api.specs.declared.interface.Fault.{Fault}
use Rattle.sqlite_tables.specs.Prelude.{IsCleanAfter, IsFailureOf, Layout, entries_of}
use Rattle.sqlite_writes.specs.Writable.{KeepsTables}
use Rattle.sqlite_writes.specs.Rewriting.{rewritten, repeats_key}
use Rattle.sqlite_writes.specs.Stored.{IsReported, Reports, inserted_cells}

-- a failure is that of an error that the connection reported
abbrev pub IsReportedFailure : List ℕ → SqlRow → State → State → Fault → Type 0
IsReportedFailure text params old new fault = (e : Error) × IsFailureOf e fault × Reports text params old new e

-- no failure of the disk is forgotten, and the limit of steps stays
pub record GoesOn (old new : State) : Type 0 where
  pub faults : old.faults ≤ new.faults
  pub limit : new.step_limit ≡ old.step_limit

-- a state inside the transaction of a rewrite: the rows of these keys are out and these rows are in, whose keys were free
pub record Reaches (old mid : State) (l : Layout) (gone : List ℤ) (fresh : List Tuple) : Type 0 where
  pub clean : IsCleanAfter mid
  pub inside : IsTrue mid.in_transaction
  pub schema : mid.now.schema ≡ old.now.schema
  pub free : repeats_key l gone fresh (entries_of old.now l) ≡ false
  pub rows : entries_of mid.now l ≡ rewritten l gone fresh (entries_of old.now l)
  pub others : KeepsTables old.now mid.now l
  pub kept : mid.committed ≡ old.committed
  pub goes_on : GoesOn old mid

module _ {S : Type 0} (g : Ghosts S) (l : Layout) (old new : State) where
  -- the connection reported an error of the DELETE of a key, after those of the keys before it
  abbrev pub FailsToDelete : List ℤ → Fault → Type 0
  FailsToDelete gone fault =
      (mid : Held S) × (n : ℕ) × (key : ℤ) × (slice_get gone n ≡ Some key) × Reaches old (state g mid) l (take n gone) []
      × IsReportedFailure l.deleting (sql.Int key ∷ []) (state g mid) new fault

  -- the connection reported an error of the INSERT of a row, after all deletes and the rows before it
  abbrev pub FailsToInsert : List ℤ → List Tuple → Fault → Type 0
  FailsToInsert gone fresh fault =
      (mid : Held S) × (n : ℕ) × (row : Tuple) × (slice_get fresh n ≡ Some row) × Reaches old (state g mid) l gone (take n fresh)
      × IsReported l.inserting (inserted_cells row) (state g mid) new fault

  abbrev pub FailsToChange : List ℤ → List Tuple → Fault → Type 0
  FailsToChange gone fresh fault = FailsToDelete gone fault ⊎ FailsToInsert gone fresh fault

  -- the connection reported an error of the COMMIT after all of them
  abbrev pub FailsAtCommit : List ℤ → List Tuple → Fault → Type 0
  FailsAtCommit gone fresh fault =
      (mid : Held S) × (e : Error) × Reaches old (state g mid) l gone fresh × FailsToCommit (state g mid) new e × IsFailureOf e fault

-- why a rewrite fails: a statement does, and the transaction is rolled back, or its COMMIT does
abbrev pub FailsToRewrite : {S : Type 0} → Ghosts S → Layout → List ℤ → List Tuple → State → State → Fault → Type 0
FailsToRewrite {S} g l gone fresh old new fault =
    ((end : Held S) × FailsToChange g l old (state g end) gone fresh fault × IsCleanAfter (state g end)
    × IsRolledBack (state g end) new × GoesOn (state g end) new)
    ⊎ FailsAtCommit g l old new gone fresh fault
