use Rattle.std.proofs.Common.{◌≡◌, ◌++◌, length, map}
use Rattle.std.specs.String.{string_bytes}
use Rattle.med_lexer.specs.Printing.{behind_spaces}
use Rattle.expr_writer.specs.ExprPrinting.{shapes_for}
use Rattle.sql_print.specs.QueryPrinting.{others_written, item_written}
use Rattle.med_syntax.specs.QueryView.{item_tree}
use Rattle.sql_print.proofs.query_items.write_other_items.Given as goal

abbrev pub invariant-loop-item : goal.invariant-loop-item
invariant-loop-item l = string_bytes l.out ++ behind_spaces (shapes_for (others_written item_written (map item_tree l.left))) ≡ string_bytes l.fn.out ++ behind_spaces (shapes_for (others_written item_written (map item_tree l.items)))

abbrev pub decreases-loop-item : goal.decreases-loop-item
decreases-loop-item l = length l.left
