-- What a connection to the files of a database shows.
use Rattle.std.specs.Prelude.{◌≡◌, ℕ, List, Option, IfSome}
use Rattle.sqlite_wal.specs.Recovery.{Image}
use Rattle.sqlite_trees.specs.Tree.{Trees}
use Rattle.sqlite_trees.specs.declared.store.Store.{Ghosts}
use Rattle.sqlite.specs.Effect.{Database, IsDatabase}
use Rattle.sqlite.specs.Files.{HoldsDatabase, AreFoundIn}
use Rattle.sqlite.specs.Held.{Held, state}
use Rattle.sqlite.specs.Start.{FindsIn}
use Rattle.sqlite.specs.declared.error.Error.{Error}
use Rattle.sqlite.specs.State.{State, HasCleanDisk}

-- The database is that of a log and a database file of these bytes: what SQLite's recovery makes of the two, or an empty one where there
-- was none. It is said as long as the disk returned what was written, and nobody else wrote the files.
abbrev pub ShowsImage : Image → State → Type 0
ShowsImage image s = HasCleanDisk s → FindsIn image s

-- the database is that of the files at a path, where these are known
abbrev pub ShowsKnown : Option Image → State → Type 0
ShowsKnown stands s = IfSome stands (λ image. ShowsImage image s)

-- the files of a database at each path, where these are known
abbrev pub Images : Type 0
Images = List ℕ → Option Image

-- a connection shows the database of the files at a path
abbrev pub ShowsAt : {S : Type 0} → Ghosts S → Images → List ℕ → Held S → Type 0
ShowsAt store images path conn = ShowsKnown (images path) (state store conn)

-- A database is that of a log and a database file of these bytes: its trees are what SQLite's recovery makes of the two, or are empty where
-- there was none, and its schema is the one that they list.
pub record IsFoundIn (image : Image) (db : Database) : Type 0 where
  pub holds : (trees : Trees) → HoldsDatabase image trees → db.trees ≡ trees
  pub reads : AreFoundIn image db.trees
  pub lists : IsDatabase db

-- the database is found in the files at a path, where these are known
abbrev pub IsFoundAt : Images → List ℕ → Database → Type 0
IsFoundAt images path db = IfSome (images path) (λ image. IsFoundIn image db)

-- errors that may be reported in place of a database
abbrev pub Errors : Type 1
Errors = Error → Type 0

-- each of these errors is one of those
abbrev pub Follows : Errors → Errors → Type 0
Follows these those = (e : Error) → these e → those e
