-- Statements that write rows, without where they lie in memory.
use Rattle.std.specs.Prelude.{List, map, option_map, Vec, String}
use Rattle.std.specs.Global.{Global}
use Rattle.std.specs.String.{string_bytes}
use Rattle.med_syntax.specs.declared.expr.Expr.{Expr}
use Rattle.med_syntax.specs.Tree.{Name}
use Rattle.med_syntax.specs.ExprTree.{ExprTree}
use Rattle.med_syntax.specs.ExprView.{expr_tree}
use Rattle.med_syntax.specs.QueryView.{entry_tree, select_tree}
use Rattle.med_syntax.specs.declared.statement.Statement.TheVariants as s
use Rattle.med_syntax.specs.declared.write.Given.{Given}
use Rattle.med_syntax.specs.declared.write.Given.TheVariants as g
use Rattle.med_syntax.specs.declared.write.Insert.{Insert}
use Rattle.med_syntax.specs.declared.write.SetClause.{SetClause}
use Rattle.med_syntax.specs.declared.write.Update.{Update}
use Rattle.med_syntax.specs.declared.write.Delete.{Delete}
use Rattle.med_syntax.specs.declared.write.WriteStatement.{WriteStatement}
use Rattle.med_syntax.specs.declared.write.WriteStatement.TheVariants as w
use Rattle.med_syntax.specs.WriteTree.{GivenTree, values, rows_of, InsertTree, SetTree, UpdateTree, DeleteTree, WriteTree, insert, update, delete}

-- one row of VALUES
abbrev pub row_tree : Vec Expr Global → List ExprTree
row_tree r = map expr_tree r.items

abbrev pub names_tree : Vec (String Global) Global → List Name
names_tree v = map string_bytes v.items

abbrev pub given_tree : Given → GivenTree
given_tree (g.Values rows) = values (map row_tree rows.items)
given_tree (g.Rows (s.Select q)) = rows_of (select_tree q)

abbrev pub insert_tree : Insert → InsertTree
insert_tree i = record { table = string_bytes i.table; columns = option_map names_tree i.columns; given = given_tree i.given }

abbrev pub set_tree : SetClause → SetTree
set_tree c = record { column = string_bytes c.column; value = expr_tree c.value }

abbrev pub update_tree : Update → UpdateTree
update_tree u = record { entry = entry_tree u.entry; sets = map set_tree u.sets.items; condition = option_map expr_tree u.condition }

abbrev pub delete_tree : Delete → DeleteTree
delete_tree d = record { entry = entry_tree d.entry; condition = option_map expr_tree d.condition }

abbrev pub write_tree : WriteStatement → WriteTree
write_tree (w.Insert i) = insert (insert_tree i)
write_tree (w.Update u) = update (update_tree u)
write_tree (w.Delete d) = delete (delete_tree d)
