-- The tables of a new database, as the texts that make them say.
use Rattle.std.specs.Prelude.{[], ◌∷◌}
use Rattle.sqlite.specs.Schema.{Schema}
use Rattle.sqlite_tables.specs.Shapes.{alone, orders_table, people_table}

-- no table, that of orders, and those of orders and people
abbrev pub no_tables : Schema
no_tables = record { tables = []; indexes = []; views = [] }

abbrev pub orders_alone : Schema
orders_alone = alone (orders_table 0)

abbrev pub both_tables : Schema
both_tables = record { tables = orders_table 0 ∷ people_table 1 ∷ []; indexes = []; views = [] }
