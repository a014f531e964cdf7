-- Many rows of a table changed at once: the old ones taken out, then the new ones put in.
use Rattle.std.specs.Prelude.{ℤ, Bool, not, List, map}
use Rattle.sqlite.specs.Order.{Row as SqlRow}
use Rattle.sqlite.specs.Edit.{without_all, put_all, are_fresh}
use Rattle.med_value.specs.Prelude.{Tuple}
use Rattle.sqlite_tables.specs.Layouts.{Layout, kinds_in}
use Rattle.sqlite_writes.specs.Stored.{inserted_cells, is_placed, stored_row}

-- a row of a table: of the types of its columns, with a key
abbrev pub has_place : Layout → Tuple → Bool
has_place l cells = is_placed (kinds_in l) cells

-- a row as its table holds it
abbrev pub stored_cells : Layout → Tuple → SqlRow
stored_cells l cells = stored_row l.cells (inserted_cells cells)

-- the rows without those of some keys, and with further rows, each in its place by key
abbrev pub rewritten : Layout → List ℤ → List Tuple → List SqlRow → List SqlRow
rewritten l gone fresh rows = put_all (without_all rows gone) (map (stored_cells l) fresh)

-- two further rows have one key, or a further row has that of a row that stays
abbrev pub repeats_key : Layout → List ℤ → List Tuple → List SqlRow → Bool
repeats_key l gone fresh rows = not (are_fresh (without_all rows gone) (map (stored_cells l) fresh))
