-- What is asked of a database, so that a call by itself does over any store what it does over one that always returns what was written.
use Rattle.std.specs.Prelude.{◌≡◌, ℕ, true, List, Option, length, IfSome}
use Rattle.std.specs.List.{list_all}
use Rattle.sqlite.specs.Effect.{Database}
use Rattle.sqlite.specs.Schema.{Schema}
use Rattle.sqlite.specs.State.{State}
use Rattle.fdw_api.specs.Prelude.{Change, Staging, id_is_there}
use Rattle.sqlite_tables.specs.Prelude.{Layout, layout_at, IsKnown, rows_of}
use Rattle.sqlite_writes.specs.Writable.{AreApart, IsSureWrite, IsWritable}
use Rattle.sqlite_wrapper.specs.Changes.{names_rows}
use Rattle.sqlite_wrapper.specs.Counts.{AreCounts}

-- each table's page text either is not understood or reads a page of a table
abbrev pub AreKnown : Schema → Type 0
AreKnown schema = (t : ℕ) → ∥ IsKnown schema (layout_at t) ∥₁

-- each table's three texts either are not understood or are for one table
abbrev pub AreWritable : Schema → Type 0
AreWritable schema = (t : ℕ) → ∥ IsWritable schema (layout_at t) ∥₁

-- before a write is kept: each table's three texts either are not understood or are for one table, of no two layouts the same; its
-- changes name rows that are there; and the numbers of rows that are held are those of the tables
pub record MayBeKept (db : Database) (staged : Option Staging) (counts : List (Option ℕ)) : Type 0 where
  pub texts : AreWritable db.schema
  pub apart : AreApart db.schema
  pub there : names_rows db staged ≡ true
  pub counts_are : AreCounts db counts

-- a write of these changes to a table, for which this number of rows is held, is sure
pub record IsSureChange (old new : State) (l : Layout) (held : Option ℕ) (changes : List Change) : Type 0 where
  pub sure : IsSureWrite old new l
  pub there : list_all (id_is_there (rows_of old.now l)) changes ≡ true
  pub count : IfSome held (λ n. n ≡ length (rows_of old.now l))
