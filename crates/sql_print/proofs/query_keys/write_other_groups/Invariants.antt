use Rattle.std.proofs.Common.{◌≡◌, ◌++◌, length, map}
use Rattle.std.specs.String.{string_bytes}
use Rattle.med_lexer.specs.Printing.{behind_spaces}
use Rattle.expr_writer.specs.ExprPrinting.{shapes_for}
use Rattle.sql_print.specs.QueryPrinting.{others_written, group_written}
use Rattle.med_syntax.specs.QueryView.{group_tree}
use Rattle.sql_print.proofs.query_keys.write_other_groups.Given as goal

abbrev pub invariant-loop-group : goal.invariant-loop-group
invariant-loop-group l = string_bytes l.out ++ behind_spaces (shapes_for (others_written group_written (map group_tree l.left))) ≡ string_bytes l.fn.out ++ behind_spaces (shapes_for (others_written group_written (map group_tree l.groups)))

abbrev pub decreases-loop-group : goal.decreases-loop-group
decreases-loop-group l = length l.left
