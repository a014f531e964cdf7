use Rattle.std.proofs.Common.{◌≡◌, ◌++◌, length, map}
use Rattle.std.specs.String.{string_bytes}
use Rattle.med_lexer.specs.Printing.{behind_spaces}
use Rattle.sql_print.specs.WritePrinting.{name_written}
use Rattle.expr_writer.specs.ExprPrinting.{shapes_for}
use Rattle.sql_print.specs.QueryPrinting.{others_written}
use Rattle.sql_print.proofs.write_lists.write_other_names.Given as goal

abbrev pub invariant-loop-name : goal.invariant-loop-name
invariant-loop-name l = string_bytes l.out ++ behind_spaces (shapes_for (others_written name_written (map string_bytes l.left))) ≡ string_bytes l.fn.out ++ behind_spaces (shapes_for (others_written name_written (map string_bytes l.names)))

abbrev pub decreases-loop-name : goal.decreases-loop-name
decreases-loop-name l = length l.left
