-- What a look finds at a table by the texts that are built of its stored names, as a function of the schema.
use Rattle.std.specs.Prelude.{
  ℕ,
  not,
  if◌then◌else◌,
  List,
  [],
  ◌∷◌,
  map,
  filter,
  length,
  Option,
  Some,
  None,
  slice_get,
  string_bytes,
  codes,
}
use Rattle.std.specs.List.{range_with_len, position_from}
use Rattle.std.specs.Option.{option_and_then, option_map, option_or}
use Rattle.std.specs.Str.{is_utf8, bytes_eq}
use Rattle.sqlite.specs.Schema.{Schema}
use Rattle.sqlite_schema.specs.Names.{is_key}
use Rattle.sqlite_schema.specs.declared.schema.Column.{Column}
use Rattle.sqlite_schema.specs.declared.schema.Table.{Table}
use Rattle.sqlite_looks.specs.declared.shapes.Texts.{Texts}
use Rattle.sqlite_looks.specs.Shapes.{can_read}
use Rattle.sqlite_looks.specs.Texts.{page_text, delete_text, insert_text}

-- the texts by which a table is read and changed, as bytes
pub record Spelled : Type 0 where
  pub page : List ℕ
  pub delete : List ℕ
  pub insert : List ℕ

abbrev pub spelled : Texts → Spelled
spelled texts = record { page = string_bytes texts.page; delete = string_bytes texts.delete; insert = string_bytes texts.insert }

-- a stored name, where it is UTF-8
abbrev pub name_of : List ℕ → Option (List ℕ)
name_of name = if is_utf8 name then Some name else None

-- the name of a column by its number, where there is such a column
abbrev pub name_at : List Column → ℕ → Option (List ℕ)
name_at columns at = option_and_then (λ c. name_of c.name) (slice_get columns at)

-- the values, where all are there
abbrev pub all_of : List (Option (List ℕ)) → Option (List (List ℕ))
all_of [] = Some []
all_of (None ∷ others) = None
all_of (Some x ∷ others) = option_map (λ xs. x ∷ xs) (all_of others)

-- the names of columns by their numbers
abbrev pub names_at : List Column → List ℕ → Option (List (List ℕ))
names_at columns numbers = all_of (map (name_at columns) numbers)

-- the numbers of all columns
abbrev pub every_column : Table → List ℕ
every_column table = range_with_len 0 (length table.columns)

-- the numbers of the columns that a new row names: all but the one that is the rowid
abbrev pub inserted : Table → List ℕ
inserted table = filter (λ at. not (is_key table.key at)) (every_column table)

-- the texts by a name of the rowid, of the names of a table, of the columns that a page shows and of those that a new row names
abbrev pub texts_with : List ℕ → Option (List ℕ) → Option (List (List ℕ)) → Option (List (List ℕ)) → Option Spelled
texts_with rowid_name (Some table) (Some shown) (Some named) = Some (record {
  page = page_text rowid_name table shown;
  delete = delete_text rowid_name table;
  insert = insert_text rowid_name table named;
})
texts_with rowid_name _ _ _ = None

-- the texts of a table by a name of the rowid: none where a wanted column is not there or a name is not UTF-8
abbrev pub texts_of : Table → List ℕ → List ℕ → Option Spelled
texts_of table wanted rowid_name =
    texts_with rowid_name (name_of table.name) (names_at table.columns wanted) (names_at table.columns (inserted table))

-- the texts, where the page text means the page that is wanted
abbrev pub readable : Schema → Table → List ℕ → Option Spelled → Option Spelled
readable schema table wanted None = None
readable schema table wanted (Some texts) = if can_read schema table wanted texts.page then Some texts else None

-- what is found at a table by a name of the rowid
abbrev pub found_by : Schema → Option Table → List ℕ → List ℕ → Option Spelled
found_by schema None wanted rowid_name = None
found_by schema (Some table) wanted rowid_name = readable schema table wanted (texts_of table wanted rowid_name)

-- what is found by the first name of the rowid that serves
abbrev pub found : Schema → Option Table → List ℕ → Option Spelled
found schema table wanted =
    option_or (found_by schema table wanted (codes "rowid"))
    (option_or (found_by schema table wanted (codes "_rowid_")) (found_by schema table wanted (codes "oid")))

-- the texts of the table at a place of the schema, of which these columns are wanted: none where it cannot be read by any
abbrev pub found_at : Schema → ℕ → List ℕ → Option Spelled
found_at schema at wanted = found schema (slice_get schema.tables at) wanted

-- the place of the table of this stored name, byte for byte
abbrev pub table_called : Schema → List ℕ → Option ℕ
table_called schema name = position_from (λ t. bytes_eq t.name name) 0 schema.tables

-- the texts of the table at a place, of which all columns are wanted
abbrev pub whole : Schema → Option Table → Option Spelled
whole schema None = None
whole schema (Some table) = found schema (Some table) (every_column table)

-- the texts of the table of this stored name, of which all columns are wanted
abbrev pub found_called : Schema → List ℕ → Option Spelled
found_called schema name = option_and_then (λ at. whole schema (slice_get schema.tables at)) (table_called schema name)
