-- What a kept write makes of a database.
use Rattle.std.specs.Prelude.{◌≡◌, ◌≢◌, [], List, None, map, nat_eq}
use Rattle.std.specs.List.{IsDistinct}
use Rattle.sqlite.specs.Effect.{Database}
use Rattle.fdw_api.specs.Prelude.{Change, held, rows_after}
use Rattle.sqlite_tables.specs.Prelude.{Layout, rows_of, tree_found}
use Rattle.sqlite_writes.specs.Kinds.{in_key_order, no_line, write_causes}
use Rattle.sqlite_writes.specs.Writable.{KeepsTables}

-- the table is there and no cause applies to the changes: exactly they are made, the rows are in the order of their keys, each under an
-- id of its own, and the other table has the rows that it had
pub record Rewrites (old new : Database) (l : Layout) (changes : List Change) : Type 0 where
  pub schema : new.schema ≡ old.schema
  pub there : tree_found old.schema l ≢ None
  pub no_cause : write_causes (rows_of old l) changes ≡ []
  pub rows : map held (rows_of new l) ≡ in_key_order (rows_after no_line (rows_of old l) changes)
  pub once : IsDistinct nat_eq (map (λ r. r.id) (rows_of new l))
  pub others : KeepsTables old new l
