-- When a stored table is of the shape of a layout.
use Rattle.std.specs.Prelude.{ℕ, Bool, true, false, not, ◌&&◌, List, length, nat_eq, Option, Some, None, codes, slice_get}
use Rattle.std.specs.List.{list_any}
use Rattle.sqlite.specs.Table.{Table}
use Rattle.sqlite.specs.Schema.{Schema}
use Rattle.sqlite_schema.specs.Names.{same_name, table_named, view_named, column_named, is_key}
use Rattle.sqlite_tables.specs.Layouts.{Layout}

-- the column at this place is the INTEGER PRIMARY KEY
abbrev pub is_key_at : Table → Option ℕ → Bool
is_key_at table None = false
is_key_at table (Some at) = is_key table.key at

-- the INTEGER PRIMARY KEY is the column id, beside which there are two columns and no more
abbrev pub is_keyed : Table → Bool
is_keyed table = is_key_at table (column_named table (codes "id")) && nat_eq (length table.columns) 3

-- the table at this place is such a table
abbrev pub is_one_keyed : Option Table → Bool
is_one_keyed None = false
is_one_keyed (Some table) = is_keyed table

abbrev pub is_keyed_at : Schema → Option ℕ → Bool
is_keyed_at schema None = false
is_keyed_at schema (Some place) = is_one_keyed (slice_get schema.tables place)

-- a foreign key of the table refers to the table of the name
abbrev pub refers_to : List ℕ → Table → Bool
refers_to name table = list_any (λ r. same_name r.parent name) table.references

-- a table of the schema refers to it, or the table of the name to itself
abbrev pub is_parent : Schema → List ℕ → Bool
is_parent schema name = list_any (refers_to name) schema.tables

abbrev pub is_none : Option ℕ → Bool
is_none None = true
is_none (Some place) = false

-- the table of the layout's name, in either case of ASCII letters, is keyed by id and has three columns, none refers to it, and no view
-- has its name
abbrev pub is_of_shape : Schema → Layout → Bool
is_of_shape schema l =
    is_keyed_at schema (table_named schema l.name) && not (is_parent schema l.name) && is_none (view_named schema l.name)
