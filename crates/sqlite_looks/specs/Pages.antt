-- The text that reads a page of a table, by what it means under a schema, and the rows of a key range.
use Rattle.std.specs.Prelude.{◌≡◌, ℕ, ℤ, pos, Bool, false, ◌&&◌, List, [], ◌∷◌, filter, map, None, Result, Ok, Err}
use Rattle.std.specs.Ordering.{is_ge, is_le, int_cmp}
use Rattle.sqlite.specs.Order.{Row, column}
use Rattle.sqlite.specs.Schema.{Schema}
use Rattle.sqlite.specs.Edit.{id_in}
use Rattle.sqlite.specs.Tree.{rowid}
use Rattle.sqlite.specs.Listing.{understood, reads_listing}
use Rattle.sqlite.specs.Given.{IsPlain}
use Rattle.sqlite_resolve.specs.declared.compiled.Compiled.{Compiled}
use Rattle.sqlite_resolve.specs.declared.error.CompileError.{CompileError}
use Rattle.sqlite.specs.declared.types.Value.TheVariants.{Int}
use Rattle.sqlite.specs.Term.{Term, lit, col, op2}
use Rattle.sqlite.specs.Query.{Query, inner, end}
use Rattle.sqlite.specs.Command.{Command}
use Rattle.sqlite.specs.Command.TheVariants.{Select, Nothing}
use Rattle.sqlite_sql.specs.declared.ops.CompareOp.TheVariants.{Ge, Le}
use Rattle.sqlite_sql.specs.declared.ops.BinaryOp.TheVariants.{Compare}
use Rattle.sqlite_value.specs.declared.keys.Collation.TheVariants.{Binary}
use Rattle.sqlite_value.specs.declared.keys.Key.{Key}

-- the rowid is at least ?1 and at most ?2
abbrev pub page_filter : List Term
page_filter = op2 (Compare Ge Binary) (col 1 0) (col 0 0) ∷ op2 (Compare Le Binary) (col 1 0) (col 0 1) ∷ []

abbrev pub by_key : Key
by_key = record { collation = Binary; descending = false }

-- of the rows of one tree that meet the filter, the first `size` by rowid: of each the columns at these places
abbrev pub page_query : ℕ → List ℕ → ℕ → Query
page_query tree places size = record {
  from = inner tree end;
  filter = page_filter;
  group = None;
  project = map (col 1) places;
  distinct = false;
  collations = [];
  order = (col 1 0, by_key) ∷ [];
  limit = lit (Int (pos size));
  offset = lit (Int (pos 0));
}

-- the command that a text was understood as
abbrev pub command_of : Result Compiled CompileError → Command
command_of (Ok c) = c.command
command_of (Err e) = Nothing

-- under this schema the text reads a page of `size` rows of the table in this tree: of each row the columns at these places
pub record IsPageText (schema : Schema) (text : List ℕ) (tree : ℕ) (places : List ℕ) (size : ℕ) : Type 0 where
  pub names : List (List ℕ)
  pub is : command_of (understood schema text) ≡ Select (record { lets = []; body = page_query tree places size }) names
  pub plain : IsPlain (understood schema text)
  pub unlisted : reads_listing schema text ≡ false

-- the key of a row is its rowid
abbrev pub key_of : Row → ℤ
key_of r = id_in (rowid r)

abbrev pub in_range : ℤ → ℤ → Row → Bool
in_range low high r = is_ge (int_cmp (key_of r) low) && is_le (int_cmp (key_of r) high)

-- the columns of a row at these places
abbrev pub paged : List ℕ → Row → Row
paged places r = map (λ at. column r at) places

-- the rows of a key range, in the order of the tree, which is that of the keys
abbrev pub range_of : List ℕ → ℤ → ℤ → List Row → List Row
range_of places low high rows = map (paged places) (filter (in_range low high) rows)
