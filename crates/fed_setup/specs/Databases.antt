-- New SQLite databases as sources.
use Rattle.std.specs.Prelude.{◌≡◌, ℕ, Bool, true, false, List, [], Option, Some, None}
use Rattle.wrapper_parts.specs.declared.either.EitherSource.{EitherSource}
use Rattle.wrapper_parts.specs.declared.either.EitherSource.TheVariants.{First, Second}
use Rattle.fdw_api.specs.Prelude.{Stored, BoxState}
use Rattle.sqlite.specs.Effect.{Database}
use Rattle.sqlite.specs.Held.{Held}
use Rattle.sqlite_tables.specs.Prelude.{kinds_in, layout_at, entry_of}
use Rattle.sqlite.specs.declared.error.Error.{Error}
use Rattle.sqlite.specs.declared.error.Error.TheVariants.{SqliteFailure}
use Rattle.sqlite.specs.declared.error.ErrorCode.{ErrorCode}
use Rattle.sqlite.specs.declared.error.ErrorCode.TheVariants as error_codes
use Rattle.sqlite_writes.specs.Found.{Errors, Images, IsFoundAt}
use Rattle.fed_setup.specs.declared.sources.OpenFault.{OpenFault}
use Rattle.fed_setup.specs.declared.sources.OpenFault.TheVariants as faults
use Rattle.sqlite_wrapper.specs.SqliteBoxes.{IsNewSqlite}
use Rattle.sqlite_wrapper.specs.declared.wrapper.SqliteWrapper.{SqliteWrapper}
use Rattle.fed_words.specs.Places.{is_memory}

-- a new database in memory: honest, with both tables, which have no rows
abbrev pub IsNewMemory : BoxState → Type 0
IsNewMemory s =
    (db : Database) × IsNewSqlite true db s × ((t : ℕ) → entry_of db (layout_at t) ≡ Some (Stored (kinds_in (layout_at t)) []))

-- a database in a file, as honest as its store: the one that stands at this path, where its store always returns what was written
abbrev pub IsNewFile : Bool → Images → List ℕ → BoxState → Type 0
IsNewFile honest images path s = (db : Database) × IsNewSqlite honest db s × (honest ≡ true → IsFoundAt images path db)

abbrev pub by_path : Bool → Images → List ℕ → Bool → BoxState → Type 0
by_path honest images path true s = IsNewMemory s
by_path honest images path false s = IsNewFile honest images path s

-- the new source of the database at this path
abbrev pub IsNewDatabase : Bool → Images → List ℕ → BoxState → Type 0
IsNewDatabase honest images path s = by_path honest images path (is_memory path) s

-- the connection of a source of a database in a file; no other has one (`g` and `h` are what makes its store one of a source)
abbrev pub database_in : {L F M S : Type 0} {g h : _} → EitherSource L (EitherSource F (EitherSource M (SqliteWrapper S g h))) → Option (Held S)
database_in (First list) = None
database_in (Second (First folder)) = None
database_in (Second (Second (First memory))) = None
database_in (Second (Second (Second file))) = Some file.conn

-- what an error of opening a database is told as: want of memory as such, and any other as not opened
abbrev pub code_fault : ErrorCode → OpenFault
code_fault error_codes.OutOfMemory = faults.NoMemory
code_fault _ = faults.CannotOpen

abbrev pub open_fault : Error → OpenFault
open_fault (SqliteFailure code) = code_fault code
open_fault _ = faults.CannotOpen

-- among the errors that may be told is one that is told as not opened
abbrev pub ToldNotOpened : Errors → Type 0
ToldNotOpened refuses = (error : Error) × refuses error × (open_fault error ≡ faults.CannotOpen)
