-- Which error the connection reported where a table is read and that fails.
use Rattle.std.specs.Prelude.{◌≡◌, ◌≢◌, ◌⊎◌, ℕ, ℤ, Bool, true, false, List, [], ◌∷◌}
use Rattle.sqlite.specs.declared.types.Value.TheVariants.{Int}
use Rattle.sqlite.specs.Held.{Held, state}
use Rattle.sqlite.specs.Order.{Row as SqlRow}
use Rattle.sqlite.specs.State.{State, FailsToQuery, HasCleanDisk}
use Rattle.sqlite.specs.declared.error.ErrorCode.TheVariants.{OutOfMemory}
use Rattle.sqlite.specs.declared.error.Error.{Error}
use Rattle.sqlite.specs.declared.error.Error.TheVariants.{SqliteFailure}
use Rattle.sqlite_trees.specs.declared.store.Store.{Ghosts}
use Rattle.fdw_api.specs.declared.interface.Fault.{Fault}
use Rattle.fdw_api.specs.declared.interface.Fault.TheVariants.{NoMemory, Source, Refused}
use Rattle.sqlite_tables.specs.Layouts.{Layout}
use Rattle.sqlite_tables.specs.Cells.{is_paged}
use Rattle.sqlite_tables.specs.Surveys.{causes_in}
use Rattle.sqlite_tables.specs.Tables.{IsSure, ReadsOnly, entries_of}

-- an error of a statement as the fault that its caller gets: out of memory is itself, and Source is any other error
abbrev pub IsFailureOf : Error → Fault → Type 0
IsFailureOf e NoMemory = e ≡ SqliteFailure OutOfMemory
IsFailureOf e Source = e ≢ SqliteFailure OutOfMemory
IsFailureOf e (Refused c) = ⊥

-- the connection reported this error of a page text over a key range, as far as its disk returned what was written
abbrev pub ReportsPage : List ℕ → ℤ → ℤ → State → State → Error → Type 0
ReportsPage text low high old new e = HasCleanDisk new → FailsToQuery text (Int low ∷ Int high ∷ []) old new e

-- a fault is that of an error that the connection reported of the page text of a layout over a key range
abbrev pub IsReportedPage : Layout → ℤ → ℤ → State → State → Fault → Type 0
IsReportedPage l low high old new fault = (e : Error) × IsFailureOf e fault × ReportsPage l.page low high old new e

-- a fault is that of an error that the connection reported of one page, after pages that were read and changed nothing
abbrev pub FailsToRead : {S : Type 0} → Ghosts S → Layout → State → State → Fault → Type 0
FailsToRead {S} g l old new fault =
    (mid : Held S) × (low : ℤ) × (high : ℤ) × ReadsOnly old (state g mid) l × IsReportedPage l low high (state g mid) new fault

-- a table cannot be read as one of its layout: a page does not show each column, or its rows give a cause
abbrev pub IsUnfit : Layout → List SqlRow → Type 0
IsUnfit l entries = (is_paged l ≡ false) ⊎ (causes_in l entries ≢ [])

-- a failure of the source for which no error was reported: where the store always returns what was written, and where the call is sure,
-- this is so of the table
abbrev pub IsSourceFor : Bool → Layout → State → State → Type 0 → Fault → Type 0
IsSourceFor honest l old new Reason fault = (fault ≡ Source) × (honest ≡ true → Reason) × (IsSure old new l → Reason)

-- why a table that is read whole is not read: the connection reported an error of a page, or it cannot be read as one of its layout
abbrev pub FailsToCount : {S : Type 0} → Ghosts S → Bool → Layout → State → State → Fault → Type 0
FailsToCount g honest l old new fault =
    FailsToRead g l old new fault ⊎ IsSourceFor honest l old new (IsUnfit l (entries_of old.now l)) fault
