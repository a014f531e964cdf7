-- What one statement changes in a database.
use Rattle.std.specs.Prelude.{◌≡◌, ◌≢◌, ℕ, ℤ, false, Some, slice_get}
use Rattle.sqlite.specs.Effect.{Database}
use Rattle.sqlite.specs.Table.{Table}
use Rattle.sqlite.specs.Tree.{without_rowid, put_row}
use Rattle.sqlite.specs.Order.{Row}
use Rattle.sqlite.specs.Edit.{is_taken}

-- the tables of the schema but the one in this tree have the rows that they had
abbrev pub KeepsOthers : Database → Database → ℕ → Type 0
KeepsOthers old new tree =
    (place : ℕ) (table : Table) → slice_get old.schema.tables place ≡ Some table
    → table.tree ≢ tree → new.trees table.tree ≡ old.trees table.tree

-- the table in this tree has its rows without the row of this key, and nothing else changes
pub record TakesOut (old new : Database) (tree : ℕ) (key : ℤ) : Type 0 where
  pub schema : new.schema ≡ old.schema
  pub rows : new.trees tree ≡ without_rowid key (old.trees tree)
  pub others : KeepsOthers old new tree

-- no row of the table in this tree has the key of this row, the table has it besides, in its place by key, and nothing else changes
pub record PutsIn (old new : Database) (tree : ℕ) (row : Row) : Type 0 where
  pub schema : new.schema ≡ old.schema
  pub free : is_taken (old.trees tree) row ≡ false
  pub rows : new.trees tree ≡ put_row row (old.trees tree)
  pub others : KeepsOthers old new tree
