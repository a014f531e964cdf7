-- Why a write to a table is not made: no key, other files, a read that failed, too many rows, or a rewrite that failed.
use Rattle.std.specs.Prelude.{◌≡◌, ◌⊎◌, Bool, false, List, None}
use Rattle.sqlite.specs.Held.{Held, state}
use Rattle.sqlite.specs.State.{State}
use Rattle.sqlite_trees.specs.declared.store.Store.{Ghosts}
use Rattle.med_value.specs.declared.cause.Cause.TheVariants.{TooLarge}
use Rattle.fdw_api.specs.Prelude.{Change, not_refused}
use Rattle.fdw_api.specs.declared.interface.Fault.{Fault}
use Rattle.fdw_api.specs.declared.interface.Fault.TheVariants.{Refused}
use Rattle.sqlite_tables.specs.Prelude.{FailsToCount, IsCleanAfter, IsSourceFor, Layout, ReadsOnly, tree_found}
use Rattle.sqlite_writes.specs.Failing.{FailsToRewrite}
use Rattle.sqlite_writes.specs.Splitting.{IsKeyless, keys_gone, rows_come}
use Rattle.sqlite_writes.specs.Watched.{Looks}
use Rattle.sqlite_writes.specs.declared.watch.Watch.{Watch}

-- a state that a read left in the middle of a call: the database is as it was, and the disk was clean then, if it is when the call ends
pub record IsReadTo (old mid new : State) (l : Layout) : Type 0 where
  pub reads : ReadsOnly old mid l
  pub same : mid.now ≡ old.now
  pub was_clean : IsCleanAfter new → IsCleanAfter mid

-- why the rows of a table are not counted: as `FailsToCount` says, or the source has failed, as the table is not there
abbrev pub FailsToFind : {S : Type 0} → Ghosts S → Bool → Layout → State → State → Fault → Type 0
FailsToFind g honest l old new fault =
    FailsToCount g honest l old new fault ⊎ IsSourceFor honest l old new (tree_found old.now.schema l ≡ None) fault

-- after the rows were counted, the rewrite failed
abbrev pub FailsAfterCount : {S : Type 0} → Ghosts S → Layout → List Change → State → State → Fault → Type 0
FailsAfterCount {S} g l changes old new fault =
    (mid : Held S) × IsReadTo old (state g mid) new l × FailsToRewrite g l (keys_gone changes) (rows_come changes) (state g mid) new fault

-- the files are not those that were opened, or memory was refused at the look
abbrev pub FailsToLook : Watch → Watch → Fault → Type 0
FailsToLook before after fault = not_refused fault × Looks before after false

-- why a write of these changes is not made. Before the database is used: memory was refused, a new row has no key, or the look failed.
-- Then:
-- the rows are not counted, they would be too many, or the rewrite fails
abbrev pub FailsToWrite : {S : Type 0} → Ghosts S → Bool → Layout → List Change → Watch → Watch → Held S → Held S → Fault → Type 0
FailsToWrite g honest l changes before after old new fault =
    ((new ≡ old) × (IsKeyless changes fault ⊎ FailsToLook before after fault))
    ⊎ FailsToFind g honest l (state g old) (state g new) fault
    ⊎ ((fault ≡ Refused TooLarge) × ReadsOnly (state g old) (state g new) l)
    ⊎ FailsAfterCount g l changes (state g old) (state g new) fault
