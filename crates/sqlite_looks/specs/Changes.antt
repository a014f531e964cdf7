-- The texts that take a row out of a table and put one in, by what they mean under a schema.
use Rattle.std.specs.Prelude.{◌≡◌, ℕ, pos, negsuc, false, List, [], ◌∷◌, map, Option, Some, None}
use Rattle.sqlite.specs.Schema.{Schema}
use Rattle.sqlite.specs.Listing.{understood}
use Rattle.sqlite.specs.Given.{IsPlain}
use Rattle.sqlite.specs.declared.types.Value.TheVariants.{Int, Null}
use Rattle.sqlite.specs.Term.{Term, lit, col, op2}
use Rattle.sqlite.specs.Query.{Query, inner, end}
use Rattle.sqlite.specs.Command.TheVariants.{Delete, Insert}
use Rattle.sqlite.specs.Source.TheVariants.{Values}
use Rattle.sqlite_sql.specs.declared.ops.CompareOp.TheVariants.{Eq}
use Rattle.sqlite_sql.specs.declared.ops.BinaryOp.TheVariants.{Compare}
use Rattle.sqlite_value.specs.declared.keys.Collation.TheVariants.{Binary}
use Rattle.sqlite_looks.specs.Pages.{command_of}

-- the rowid is ?1
abbrev pub delete_filter : List Term
delete_filter = op2 (Compare Eq Binary) (col 1 0) (col 0 0) ∷ []

-- the rowids of the rows of one tree that meet the filter
abbrev pub delete_query : ℕ → Query
delete_query tree = record {
  from = inner tree end;
  filter = delete_filter;
  group = None;
  project = col 1 0 ∷ [];
  distinct = false;
  collations = [];
  order = [];
  limit = lit (Int (negsuc 0));
  offset = lit (Int (pos 0));
}

-- a cell of a new row: the value of a parameter, or NULL
abbrev pub cell_term : Option ℕ → Term
cell_term None = lit Null
cell_term (Some parameter) = col 0 parameter

-- under this schema the text takes the row of the rowid ?1 out of the table at this place of the schema, which has its rows in this tree
pub record IsDeleteText (schema : Schema) (text : List ℕ) (place tree : ℕ) : Type 0 where
  pub is : command_of (understood schema text) ≡ Delete place (record { lets = []; body = delete_query tree })
  pub plain : IsPlain (understood schema text)

-- under this schema the text puts one row into the table at this place of the schema: its rowid and its columns are these cells
pub record IsInsertText (schema : Schema) (text : List ℕ) (place : ℕ) (cells : List (Option ℕ)) (width : ℕ) : Type 0 where
  pub is : command_of (understood schema text) ≡ Insert place (Values (map cell_term cells) width)
  pub plain : IsPlain (understood schema text)
