-- What the texts of a table mean under a schema: those that read a page of it, take a row out, and put one in.
use Rattle.std.specs.Prelude.{◌≡◌, ℕ, ◌+◌, false, List, [], ◌∷◌, map, length, Option, Some, None, Err, slice_get, slice_index_or}
use Rattle.std.specs.Prelude.{if◌then◌else◌}
use Rattle.med_value.specs.declared.value.ColType.{ColType}
use Rattle.med_value.specs.declared.value.ColType.TheVariants as types
use Rattle.sqlite.specs.Order.{Row}
use Rattle.sqlite.specs.Kind.{Kind}
use Rattle.sqlite.specs.Kind.TheVariants.{Integer, Text}
use Rattle.sqlite.specs.Table.{Table}
use Rattle.sqlite.specs.Schema.{Schema}
use Rattle.sqlite.specs.Listing.{understood}
use Rattle.sqlite_schema.specs.declared.schema.Keys.TheVariants.{Enforced}
use Rattle.sqlite_resolve.specs.declared.error.CompileError.{CompileError}
use Rattle.sqlite_rules.specs.Action.{works}
use Rattle.sqlite_looks.specs.Pages.{IsPageText}
use Rattle.sqlite_looks.specs.Changes.{IsDeleteText, IsInsertText}
use Rattle.sqlite_tables.specs.declared.columns.PageColumn.{PageColumn}
use Rattle.sqlite_tables.specs.Layouts.{Layout, places, is_key}

-- how many rows a page has at most
abbrev pub page_size : ℕ
page_size = 64

-- under this schema the text reads a page of the table in this tree: of each row the cells at these places
pub record IsPageOf (schema : Schema) (text : List ℕ) (tree : ℕ) (shown : List ℕ) : Type 0 where
  pub reads : IsPageText schema text tree shown page_size
  pub place : ℕ
  pub table : Table
  pub at : slice_get schema.tables place ≡ Some table
  pub tree_is : table.tree ≡ tree

-- a place of the schema has the table that has its rows in this tree, and no foreign key acts where its rows are changed
pub record IsTableAt (schema : Schema) (tree place : ℕ) : Type 0 where
  pub table : Table
  pub at : slice_get schema.tables place ≡ Some table
  pub tree_is : table.tree ≡ tree
  pub free : (olds news : List Row) → works schema Enforced 0 tree olds news ≡ []

-- under this schema the text takes the row of the key ?1 out of the table in this tree
pub record IsDeleteFrom (schema : Schema) (text : List ℕ) (tree : ℕ) : Type 0 where
  pub place : ℕ
  pub target : IsTableAt schema tree place
  pub deletes : IsDeleteText schema text place tree

-- the stored type in which values of a type stay as they are
abbrev pub kind_for : ColType → Kind
kind_for types.Int = Integer
kind_for types.Text = Text
kind_for types.Bool = Integer

-- the stored type of a cell of a new row, by the parameter that it gets: parameter 0 is the key, and the parameters after it are values of
-- these types; NULL is stored where the column is the key, whose value the rowid is
abbrev pub stored_kind : List ColType → Option ℕ → Kind
stored_kind kinds None = Integer
stored_kind kinds (Some parameter) = kind_for (slice_index_or (types.Int ∷ kinds) parameter types.Int)

-- under this schema the text puts one row into the table in this tree: its rowid is ?1, and its cells are these parameters, or NULL. The
-- parameters after the key are values of these types. No column is AUTOINCREMENT, and no default reads the time
pub record IsInsertInto (schema : Schema) (text : List ℕ) (tree : ℕ) (cells : List (Option ℕ)) (kinds : List ColType) : Type 0 where
  pub place : ℕ
  pub target : IsTableAt schema tree place
  pub inserts : IsInsertText schema text place (Some 0 ∷ cells) (length (Some 0 ∷ cells))
  pub kinds_are : map (λ c. c.kind) target.table.columns ≡ map (stored_kind kinds) cells
  pub uncounted : target.table.is_counted ≡ false
  pub unstamped : target.table.stamps.terms ≡ []

-- the parameters of the columns of a row that is put in, from the next on: the key is parameter 0, and the columns that are not the key
-- have the parameters after it, in their order
abbrev pub parameters_from : ℕ → List PageColumn → List ℕ
parameters_from next [] = []
parameters_from next (c ∷ cs) = if is_key c then 0 ∷ parameters_from next cs else next ∷ parameters_from (next + 1) cs

abbrev pub parameters_of : Layout → List ℕ
parameters_of l = parameters_from 1 l.columns

-- the parameter that an INSERT stores in the cell of a row that a page shows at this place; None where it stores NULL, or none is shown
abbrev pub parameter_shown : Layout → ℕ → Option ℕ
parameter_shown l place = slice_index_or (Some 0 ∷ l.cells) (slice_index_or (places l) place (length (Some 0 ∷ l.cells))) None

-- what an INSERT stores for each column is what a page shows in it
abbrev pub ShowsAgain : Layout → Type 0
ShowsAgain l = map (λ c. parameter_shown l c.place) l.columns ≡ map Some (parameters_of l)

-- under this schema the text is not understood
abbrev pub IsUnread : Schema → List ℕ → Type 0
IsUnread schema text = (fault : CompileError) × (understood schema text ≡ Err fault)
