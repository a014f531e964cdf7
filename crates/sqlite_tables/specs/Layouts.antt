-- The remote tables of a SQLite source: their names, columns, places and texts.
use Rattle.std.specs.Prelude.{
  ℕ,
  Bool,
  true,
  false,
  not,
  ◌&&◌,
  nat_eq,
  List,
  [],
  ◌∷◌,
  map,
  filter,
  length,
  Option,
  Some,
  None,
  slice_get,
  slice_index_or,
  codes,
  bytes_eq,
}
use Rattle.std.specs.List.{position}
use Rattle.med_value.specs.declared.value.ColType.{ColType}
use Rattle.med_value.specs.declared.value.ColType.TheVariants as types
use Rattle.sqlite_tables.specs.declared.columns.PageColumn.{PageColumn}

-- a remote table: its name, its columns, the places of a stored row that a page shows after the rowid, the cells that an INSERT stores
-- after the rowid, each a parameter or NULL, and three texts: the one that reads a page, the one that takes the row of a key out, and the
-- one that puts a row in. A column has its place in a row of a page, where 0 is the key, and its type
pub record Layout : Type 0 where
  pub name : List ℕ
  pub columns : List PageColumn
  pub shown : List ℕ
  pub cells : List (Option ℕ)
  pub page : List ℕ
  pub deleting : List ℕ
  pub inserting : List ℕ

-- the types of columns, in their order
abbrev pub kinds_at : List PageColumn → List ColType
kinds_at columns = map (λ c. c.kind) columns

abbrev pub kinds_in : Layout → List ColType
kinds_in l = kinds_at l.columns

-- what a page shows of a stored row, by places: the rowid, whose place is 0, first
abbrev pub places : Layout → List ℕ
places l = 0 ∷ l.shown

-- a column at place 0 is the key
abbrev pub is_key : PageColumn → Bool
is_key c = nat_eq c.place 0

abbrev pub is_some_key : Option PageColumn → Bool
is_some_key None = false
is_some_key (Some c) = is_key c

-- the column at this number is the key
abbrev pub is_key_column : Layout → ℕ → Bool
is_key_column l at = is_some_key (slice_get l.columns at)

-- the number of the first column that is the key, if one is
abbrev pub key_column : Layout → Option ℕ
key_column l = position is_key l.columns

-- the columns that are not the key, in their order
abbrev pub further_columns : Layout → List PageColumn
further_columns l = filter (λ c. not (is_key c)) l.columns

abbrev pub further_kinds : Layout → List ColType
further_kinds l = kinds_at (further_columns l)

abbrev pub column_at : ℕ → ColType → PageColumn
column_at place kind = record { place = place; kind = kind }

abbrev pub orders : Layout
orders = record {
  name = codes "orders";
  columns = column_at 0 types.Int ∷ column_at 1 types.Int ∷ column_at 2 types.Int ∷ [];
  shown = 2 ∷ 3 ∷ [];
  cells = None ∷ Some 1 ∷ Some 2 ∷ [];
  page = codes "SELECT id, part, n FROM orders WHERE id >= ?1 AND id <= ?2 ORDER BY id LIMIT 64";
  deleting = codes "DELETE FROM orders WHERE id = ?1";
  inserting = codes "INSERT INTO orders (id, part, n) VALUES (?1, ?2, ?3)";
}

abbrev pub people : Layout
people = record {
  name = codes "people";
  columns = column_at 0 types.Int ∷ column_at 1 types.Text ∷ column_at 2 types.Bool ∷ [];
  shown = 2 ∷ 3 ∷ [];
  cells = None ∷ Some 1 ∷ Some 2 ∷ [];
  page = codes "SELECT id, name, active FROM people WHERE id >= ?1 AND id <= ?2 ORDER BY id LIMIT 64";
  deleting = codes "DELETE FROM people WHERE id = ?1";
  inserting = codes "INSERT INTO people (id, name, active) VALUES (?1, ?2, ?3)";
}

-- the layouts that there are, by their numbers
abbrev pub layouts : List Layout
layouts = orders ∷ people ∷ []

abbrev pub layout_count : ℕ
layout_count = length layouts

-- the layout of a number; people for a number of none
abbrev pub layout_at : ℕ → Layout
layout_at t = slice_index_or layouts t people

-- the number of the first layout of a name among some, and among those that there are
abbrev pub place_in : List Layout → List ℕ → Option ℕ
place_in shapes name = position (λ l. bytes_eq l.name name) shapes

abbrev pub place_of : List ℕ → Option ℕ
place_of name = place_in layouts name

abbrev pub same_type : ColType → ColType → Bool
same_type types.Int types.Int = true
same_type types.Text types.Text = true
same_type types.Bool types.Bool = true
same_type a b = false

-- as many columns, each of the same type
abbrev pub types_match : List ColType → List ColType → Bool
types_match [] [] = true
types_match [] (y ∷ ys) = false
types_match (x ∷ xs) [] = false
types_match (x ∷ xs) (y ∷ ys) = same_type x y && types_match xs ys
