-- What a line may ask, as a tree: a statement on data, one that writes rows, one on a cursor, or one on the objects of the catalogue
-- (SQL:2016, <SQL data statement>, <SQL data change statement>, <SQL schema statement>; 14 "Data manipulation").
use Rattle.std.specs.Prelude.{ℕ}
use Rattle.med_syntax.specs.Prelude.{StatementTree, statement_height, statement_tree, DdlTree, ddl_tree, WriteTree, write_height, write_tree, CursorTree, cursor_height, cursor_tree}
use Rattle.med_parser.specs.declared.command.Command.{Command}
use Rattle.med_parser.specs.declared.command.Command.TheVariants as c

pub data CommandTree : Type 0 where
  on_data : StatementTree → CommandTree
  on_rows : WriteTree → CommandTree
  on_cursors : CursorTree → CommandTree
  on_objects : DdlTree → CommandTree

-- how high its highest expression is; 0 where there is none
abbrev pub command_height : CommandTree → ℕ
command_height (on_data s) = statement_height s
command_height (on_rows w) = write_height w
command_height (on_cursors x) = cursor_height x
command_height (on_objects d) = 0

abbrev pub command_tree : Command → CommandTree
command_tree (c.Data s) = on_data (statement_tree s)
command_tree (c.Rows w) = on_rows (write_tree w)
command_tree (c.Cursor x) = on_cursors (cursor_tree x)
command_tree (c.Ddl d) = on_objects (ddl_tree d)
