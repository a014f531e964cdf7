use Rattle.std.proofs.Common.{◌≡◌, ◌++◌, length, map}
use Rattle.std.specs.String.{string_bytes}
use Rattle.med_lexer.specs.Printing.{behind_spaces}
use Rattle.med_syntax.specs.WriteView.{set_tree}
use Rattle.sql_print.specs.WritePrinting.{set_written}
use Rattle.expr_writer.specs.ExprPrinting.{shapes_for}
use Rattle.sql_print.specs.QueryPrinting.{others_written}
use Rattle.sql_print.proofs.write_lists.write_other_sets.Given as goal

abbrev pub invariant-loop-set : goal.invariant-loop-set
invariant-loop-set l = string_bytes l.out ++ behind_spaces (shapes_for (others_written set_written (map set_tree l.left))) ≡ string_bytes l.fn.out ++ behind_spaces (shapes_for (others_written set_written (map set_tree l.sets)))

abbrev pub decreases-loop-set : goal.decreases-loop-set
decreases-loop-set l = length l.left
