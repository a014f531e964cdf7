use Rattle.std.proofs.Common.{◌≡◌, ◌++◌, length, map}
use Rattle.std.specs.String.{string_bytes}
use Rattle.med_lexer.specs.Printing.{behind_spaces}
use Rattle.expr_writer.specs.ExprPrinting.{shapes_for}
use Rattle.sql_print.specs.QueryPrinting.{unions_written}
use Rattle.med_syntax.specs.QueryView.{core_tree}
use Rattle.sql_print.proofs.query_writer.write_unions.Given as goal

abbrev pub invariant-loop-core : goal.invariant-loop-core
invariant-loop-core l = string_bytes l.out ++ behind_spaces (shapes_for (unions_written (map core_tree l.left))) ≡ string_bytes l.fn.out ++ behind_spaces (shapes_for (unions_written (map core_tree l.cores)))

abbrev pub decreases-loop-core : goal.decreases-loop-core
decreases-loop-core l = length l.left
