use Rattle.std.proofs.Common.{◌≡◌, ◌++◌, length, map}
use Rattle.std.specs.String.{string_bytes}
use Rattle.med_lexer.specs.Printing.{behind_spaces}
use Rattle.med_syntax.specs.WriteView.{row_tree}
use Rattle.sql_print.specs.WritePrinting.{row_written}
use Rattle.expr_writer.specs.ExprPrinting.{shapes_for}
use Rattle.sql_print.specs.QueryPrinting.{others_written}
use Rattle.sql_print.proofs.write_lists.write_other_rows.Given as goal

abbrev pub invariant-loop-row : goal.invariant-loop-row
invariant-loop-row l = string_bytes l.out ++ behind_spaces (shapes_for (others_written row_written (map row_tree l.left))) ≡ string_bytes l.fn.out ++ behind_spaces (shapes_for (others_written row_written (map row_tree l.rows)))

abbrev pub decreases-loop-row : goal.decreases-loop-row
decreases-loop-row l = length l.left
