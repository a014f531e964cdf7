use Rattle.std.proofs.Common.{◌≡◌, ◌++◌, length, map}
use Rattle.std.specs.String.{string_bytes}
use Rattle.med_lexer.specs.Printing.{behind_spaces}
use Rattle.expr_writer.specs.ExprPrinting.{shapes_for}
use Rattle.sql_print.specs.QueryPrinting.{joins_written}
use Rattle.med_syntax.specs.QueryView.{join_tree}
use Rattle.sql_print.proofs.query_source.write_joins.Given as goal

abbrev pub invariant-loop-join : goal.invariant-loop-join
invariant-loop-join l = string_bytes l.out ++ behind_spaces (shapes_for (joins_written (map join_tree l.left))) ≡ string_bytes l.fn.out ++ behind_spaces (shapes_for (joins_written (map join_tree l.joins)))

abbrev pub decreases-loop-join : goal.decreases-loop-join
decreases-loop-join l = length l.left
