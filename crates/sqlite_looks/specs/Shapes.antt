-- What a look at a table finds.
use Rattle.std.specs.Prelude.{
  ◌≡◌,
  ℕ,
  ◌+◌,
  Bool,
  false,
  not,
  ◌&&◌,
  nat_lt,
  if◌then◌else◌,
  List,
  [],
  ◌∷◌,
  map,
  length,
  Option,
  Some,
  None,
  string_bytes,
}
use Rattle.std.specs.List.{list_all}
use Rattle.sqlite.specs.Schema.{Schema}
use Rattle.sqlite_schema.specs.Names.{place_of, is_key}
use Rattle.sqlite_schema.specs.declared.schema.Column.{Column}
use Rattle.sqlite_schema.specs.declared.schema.Kind.{Kind}
use Rattle.sqlite_schema.specs.declared.schema.Table.{Table}
use Rattle.sqlite_looks.specs.declared.shapes.ReadOnly.{ReadOnly}
use Rattle.sqlite_looks.specs.declared.shapes.ReadOnly.TheVariants.{Counted, Stamped, Referenced, OtherMeaning}
use Rattle.sqlite_looks.specs.declared.shapes.Shape.{Shape}
use Rattle.sqlite_looks.specs.declared.shapes.ShapeColumn.{ShapeColumn}
use Rattle.sqlite_looks.specs.declared.shapes.Texts.{Texts}
use Rattle.sqlite_looks.specs.Free.{is_free}
use Rattle.sqlite_looks.specs.Looks.{is_empty, means_page, means_delete, means_insert}

-- a column as a shape has it: its stored name, its type, and the place of its value in a row
abbrev pub entry_of : ShapeColumn → List ℕ × (Kind × ℕ)
entry_of c = (c.name, (c.kind, c.place))

-- a column of a table at its number, likewise
abbrev pub entry_at : Option ℕ → ℕ → Column → List ℕ × (Kind × ℕ)
entry_at key at c = (c.name, (c.kind, if is_key key at then 0 else at + 1))

abbrev pub entries_from : Option ℕ → ℕ → List Column → List (List ℕ × (Kind × ℕ))
entries_from key at [] = []
entries_from key at (c ∷ cs) = entry_at key at c ∷ entries_from key (at + 1) cs

abbrev pub entries_of : Table → List (List ℕ × (Kind × ℕ))
entries_of table = entries_from table.key 0 table.columns

abbrev pub is_there : Table → ℕ → Bool
is_there table at = nat_lt at (length table.columns)

-- what a page shows: the places of the rowid and of these columns
abbrev pub places_of : Table → List ℕ → List ℕ
places_of table wanted = 0 ∷ map (place_of table) wanted

-- the columns are there, and the text reads a page of the table that shows them
abbrev pub can_read : Schema → Table → List ℕ → List ℕ → Bool
can_read schema table wanted page =
    list_all (is_there table) wanted && means_page schema page table.tree (places_of table wanted) 64

-- the table is there, and can be read so
abbrev pub can_look : Schema → Option Table → List ℕ → List ℕ → Bool
can_look schema None wanted page = false
can_look schema (Some table) wanted page = can_read schema table wanted page

-- the cell of a new row in a column, NULL in the one that is the rowid, and the parameter that comes next
abbrev pub cell_at : Option ℕ → ℕ → ℕ → Option ℕ × ℕ
cell_at key at parameter = if is_key key at then (None, parameter) else (Some parameter, parameter + 1)

-- the cells of a new row from column `at` on
abbrev pub cells_from : Option ℕ → ℕ → ℕ → List Column → List (Option ℕ)
cells_from key at parameter [] = []
cells_from key at parameter (c ∷ cs) =
    (cell_at key at parameter).0 ∷ cells_from key (at + 1) (cell_at key at parameter).1 cs

-- the rowid is the first parameter
abbrev pub cells_of : Table → List (Option ℕ)
cells_of table = Some 0 ∷ cells_from table.key 0 1 table.columns

-- the texts take one row out of the table at this place, in this tree, and put one of these cells in
abbrev pub can_change : Schema → ℕ → ℕ → List (Option ℕ) → Texts → Bool
can_change schema at tree cells texts =
    means_delete schema (string_bytes texts.delete) at tree && means_insert schema (string_bytes texts.insert) at cells (length cells)

-- why a table is not written, whatever its texts mean
abbrev pub barred : Schema → Table → Option ReadOnly
barred schema table =
    if table.is_counted then Some Counted else (if not (is_empty table.stamps.terms) then Some Stamped
    else (if not (is_free schema table.tree) then Some Referenced else None))

abbrev pub first : Option ReadOnly → Option ReadOnly → Option ReadOnly
first None other = other
first (Some reason) other = Some reason

-- why the table at this place is not written by these texts, if it is not
abbrev pub read_only : Schema → ℕ → Table → Texts → Option ReadOnly
read_only schema at table texts =
    first (barred schema table) (if can_change schema at table.tree (cells_of table) texts then None else Some OtherMeaning)

-- the shape is that of this table at this place of the schema, of which these columns are wanted
pub record IsShapeOf (schema : Schema) (at : ℕ) (table : Table) (wanted : List ℕ) (shape : Shape) : Type 0 where
  pub name : shape.name ≡ table.name
  pub place : shape.table ≡ at
  pub tree : shape.tree ≡ table.tree
  pub columns : map entry_of shape.columns.items ≡ entries_of table
  pub key : shape.key ≡ table.key
  pub places : shape.places.items ≡ places_of table wanted
  pub cells : shape.cells.items ≡ cells_of table
  pub written : shape.read_only ≡ read_only schema at table shape.texts

-- its page text reads a page of the table that shows these columns
abbrev pub shows_pages : Schema → Table → List ℕ → Shape → Bool
shows_pages schema table wanted shape =
    means_page schema (string_bytes shape.texts.page) table.tree (places_of table wanted) 64
