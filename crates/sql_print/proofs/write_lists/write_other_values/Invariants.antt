use Rattle.std.proofs.Common.{◌≡◌, ◌++◌, length, map}
use Rattle.std.specs.String.{string_bytes}
use Rattle.med_lexer.specs.Printing.{behind_spaces}
use Rattle.med_syntax.specs.Prelude.{expr_tree, spelling}
use Rattle.expr_writer.specs.ExprPrinting.{shapes_for}
use Rattle.sql_print.specs.QueryPrinting.{others_written}
use Rattle.sql_print.proofs.write_lists.write_other_values.Given as goal

abbrev pub invariant-loop-value : goal.invariant-loop-value
invariant-loop-value l = string_bytes l.out ++ behind_spaces (shapes_for (others_written spelling (map expr_tree l.left))) ≡ string_bytes l.fn.out ++ behind_spaces (shapes_for (others_written spelling (map expr_tree l.values)))

abbrev pub decreases-loop-value : goal.decreases-loop-value
decreases-loop-value l = length l.left
