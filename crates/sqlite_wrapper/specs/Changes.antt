-- What is kept of a write under way.
use Rattle.std.specs.Prelude.{ℕ, Bool, true, List, [], Option, Some, None, nat_eq}
use Rattle.std.specs.List.{list_all, IsDistinct}
use Rattle.std.proofs.lemmas.Map.Keys.{IsDistinct-prop}
use Rattle.fdw_api.specs.Prelude.{Staging, row_of_change_fits, id_is_there}
use Rattle.sqlite.specs.Effect.{Database}
use Rattle.sqlite_tables.specs.Prelude.{kinds_in, layout_at, rows_of}
use Rattle.sqlite_writes.specs.Splitting.{ids_named}

-- its new rows are of its table's types
abbrev pub write_fits : Option Staging → Bool
write_fits None = true
write_fits (Some s) = list_all (row_of_change_fits (kinds_in (layout_at s.table))) s.changes

-- the ids of the rows that its changes name
abbrev pub ids_under : Option Staging → List ℕ
ids_under None = []
ids_under (Some s) = ids_named s.changes

-- no two of its changes name one row
abbrev pub NamesOnce : Option Staging → Type 0
NamesOnce staged = IsDistinct nat_eq (ids_under staged)

pub named_is_prop : (staged : Option Staging) → IsProp (NamesOnce staged)
named_is_prop staged = IsDistinct-prop nat_eq (ids_under staged)

-- the rows that they name are there
abbrev pub names_rows : Database → Option Staging → Bool
names_rows db None = true
names_rows db (Some s) = list_all (id_is_there (rows_of db (layout_at s.table))) s.changes
