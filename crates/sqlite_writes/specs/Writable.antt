-- The tables of a schema that are read and written by the texts of their layouts.
use Rattle.std.specs.Prelude.{◌≡◌, ◌≢◌, ◌<◌, ◌≤◌, ◌⊎◌, ℕ, ◌∷◌, length, None, IsTrue}
use Rattle.med_value.specs.declared.value.ColType.TheVariants.{Int}
use Rattle.sqlite.specs.Schema.{Schema}
use Rattle.sqlite.specs.Effect.{Database}
use Rattle.sqlite.specs.State.{State}
use Rattle.sqlite.specs.View.{IsShaped}
use Rattle.sqlite_trees.specs.declared.store.Shape.TheVariants as shape
use Rattle.sqlite_tables.specs.Layouts.{column_at}
use Rattle.sqlite_tables.specs.Prelude.{AreTexts, IsCleanAfter, IsKnown, IsUnread, Layout, ShowsAgain, entries_of, further_columns}
use Rattle.sqlite_tables.specs.Prelude.{layout_at, layout_count, tree_of}
use Rattle.sqlite_writes.specs.Stored.{column_limit}

-- rows of the layout can be written: its first column is the key, and no other is; what an INSERT stores for a column is what a page shows
-- in it; and there are no more columns than a table of SQLite has at most
pub record IsWritten (l : Layout) : Type 0 where
  pub keyed : l.columns ≡ column_at 0 Int ∷ further_columns l
  pub again : ShowsAgain l
  pub few : length l.columns ≤ column_limit

-- none of the three texts of a layout is understood
pub record IsAbsent (schema : Schema) (l : Layout) : Type 0 where
  pub page : IsUnread schema l.page
  pub delete : IsUnread schema l.deleting
  pub insert : IsUnread schema l.inserting

-- rows of a layout can be written, and its three texts either are not understood or are for one table
abbrev pub IsWritable : Schema → Layout → Type 0
IsWritable schema l = IsWritten l × (IsAbsent schema l ⊎ ((tree : ℕ) × AreTexts schema l tree))

-- the tables of different layouts, where they are there, are different tables
abbrev pub AreApart : Schema → Type 0
AreApart schema =
    (t u : ℕ) → t < layout_count → u < layout_count → t ≢ u → tree_of schema (layout_at t) ≡ tree_of schema (layout_at u)
    → tree_of schema (layout_at t) ≡ None

-- each layout whose table is another than this one's holds what it held
abbrev pub KeepsTables : Database → Database → Layout → Type 0
KeepsTables old new l =
    (other : Layout) → ∥ IsKnown old.schema other ∥₁ → tree_of old.schema other ≢ tree_of old.schema l
    → entries_of new other ≡ entries_of old other

-- what makes a write to a table sure: as it ends the disk is clean, and as it begins the table's texts are known and its rows are in the
-- order of their keys. Each write over a store that always returns what was written is sure
pub record IsSureWrite (old new : State) (l : Layout) : Type 0 where
  pub after : IsCleanAfter new
  pub writable : ∥ IsWritable old.now.schema l ∥₁
  pub ordered : IsShaped shape.Table (entries_of old.now l)

-- what makes a statement of a write sure, inside its transaction
pub record IsSureStep (old new : State) (l : Layout) : Type 0 where
  pub after : IsCleanAfter new
  pub inside : IsTrue old.in_transaction
  pub writable : ∥ IsWritable old.now.schema l ∥₁
  pub ordered : IsShaped shape.Table (entries_of old.now l)

-- after such a statement the transaction is under way, the schema is as it was, the rows of its table are in order, and the other tables
-- hold what they held
pub record StepsTo (old new : State) (l : Layout) : Type 0 where
  pub inside : IsTrue new.in_transaction
  pub schema : new.now.schema ≡ old.now.schema
  pub ordered : IsShaped shape.Table (entries_of new.now l)
  pub others : KeepsTables old.now new.now l
