-- Values as the cells of a database, rows as it holds them, and what the errors of an INSERT are to its caller.
use Rattle.std.specs.Prelude.{◌≡◌, ◌≢◌, ◌&&◌, ℕ, pos, Bool, not, List, [], ◌∷◌, map, Option, None, Some, if◌then◌else◌, Err, IsTrue}
use Rattle.sqlite.specs.declared.types.Value.{Value as SqlValue}
use Rattle.sqlite.specs.declared.types.Value.TheVariants as sql
use Rattle.sqlite.specs.Order.{Row as SqlRow, column}
use Rattle.sqlite.specs.State.{State, HasCleanDisk, ExecutesInside}
use Rattle.sqlite.specs.declared.error.ErrorCode.TheVariants.{ConstraintViolation, OutOfMemory}
use Rattle.sqlite.specs.declared.error.Error.{Error}
use Rattle.sqlite.specs.declared.error.Error.TheVariants.{SqliteFailure}
use Rattle.sqlite_schema.specs.declared.schema.Constraint.TheVariants.{PrimaryKey}
use Rattle.med_value.specs.Prelude.{Datum, NoValue, Whole, Chars, Logic, Tuple, cell, is_missing}
use Rattle.med_value.specs.declared.value.ColType.{ColType}
use Rattle.med_value.specs.declared.cause.Cause.TheVariants.{NotUnique}
use Rattle.fdw_api.specs.Scan.{row_fits}
use Rattle.fdw_api.specs.declared.interface.Fault.{Fault}
use Rattle.fdw_api.specs.declared.interface.Fault.TheVariants.{NoMemory, Source, Refused}

-- a value as a cell: NULL, an integer, a text, and 0 and 1 for false and true
abbrev pub stored : Datum → SqlValue
stored NoValue = sql.Null
stored (Whole n) = sql.Int n
stored (Chars t) = sql.Text t
stored (Logic b) = sql.Int (if b then pos 1 else pos 0)

-- a row of these types, whose first cell is no NULL
abbrev pub is_placed : List ColType → Tuple → Bool
is_placed kinds cells = row_fits kinds cells && not (is_missing (cell cells 0))

-- the parameters of an INSERT: the cells of the row in their order; the first is the key
abbrev pub inserted_cells : Tuple → SqlRow
inserted_cells cells = map stored cells

-- a cell of the row that an INSERT puts in: the value of a parameter, or NULL
abbrev pub stored_at : SqlRow → Option ℕ → SqlValue
stored_at parameters None = sql.Null
stored_at parameters (Some parameter) = column parameters parameter

-- the row that an INSERT of these parameters puts in, as its table holds it: the rowid is the key, which is parameter 0, and after it come
-- these cells, each a parameter or NULL
abbrev pub stored_row : List (Option ℕ) → SqlRow → SqlRow
stored_row cells parameters = map (stored_at parameters) (Some 0 ∷ cells)

-- how many columns a table of SQLite has at most
abbrev pub column_limit : ℕ
column_limit = 2000

-- what the database reports of a row whose key a row has
abbrev pub taken_key : Error
taken_key = SqliteFailure (ConstraintViolation PrimaryKey)

-- an error of an INSERT as the fault that its caller gets: a repeated key is 23505, out of memory is itself, and Source is any other error
abbrev pub IsFaultOf : Error → Fault → Type 0
IsFaultOf e NoMemory = e ≡ SqliteFailure OutOfMemory
IsFaultOf e Source = (e ≢ taken_key) × (e ≢ SqliteFailure OutOfMemory)
IsFaultOf e (Refused c) = (c ≡ NotUnique) × (e ≡ taken_key)

-- the connection reported this error of this text with these parameters, inside a transaction, as far as its disk returned what was written
abbrev pub Reports : List ℕ → SqlRow → State → State → Error → Type 0
Reports text params old new e = HasCleanDisk new → IsTrue old.in_transaction → ExecutesInside 0 text params old new (Err e)

-- a fault is that of an error that the connection reported
abbrev pub IsReported : List ℕ → SqlRow → State → State → Fault → Type 0
IsReported text params old new fault = (e : Error) × IsFaultOf e fault × Reports text params old new e
