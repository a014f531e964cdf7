-- Statements on cursors, without where they lie in memory.
use Rattle.std.specs.String.{string_bytes}
use Rattle.med_syntax.specs.QueryView.{statement_tree}
use Rattle.med_syntax.specs.declared.cursor.FetchCount.{FetchCount}
use Rattle.med_syntax.specs.declared.cursor.FetchCount.TheVariants as f
use Rattle.med_syntax.specs.declared.cursor.CursorStatement.{CursorStatement}
use Rattle.med_syntax.specs.declared.cursor.CursorStatement.TheVariants as c
use Rattle.med_syntax.specs.CursorTree.{CountTree, some_rows, all_rows, CursorTree, declare, fetch, close}

abbrev pub count_tree : FetchCount → CountTree
count_tree (f.Rows n) = some_rows n
count_tree f.All = all_rows

abbrev pub cursor_tree : CursorStatement → CursorTree
cursor_tree (c.Declare d) = declare (string_bytes d.name) (statement_tree d.query)
cursor_tree (c.Fetch x) = fetch (count_tree x.count) (string_bytes x.name)
cursor_tree (c.Close x) = close (string_bytes x.name)
