use Rattle.std.proofs.Common.{◌≡◌, ◌++◌, length, map}
use Rattle.std.specs.String.{string_bytes}
use Rattle.med_lexer.specs.Printing.{behind_spaces}
use Rattle.expr_writer.specs.ExprPrinting.{shapes_for}
use Rattle.sql_print.specs.QueryPrinting.{others_written, key_written}
use Rattle.med_syntax.specs.QueryView.{key_tree}
use Rattle.sql_print.proofs.query_keys.write_other_keys.Given as goal

abbrev pub invariant-loop-key : goal.invariant-loop-key
invariant-loop-key l = string_bytes l.out ++ behind_spaces (shapes_for (others_written key_written (map key_tree l.left))) ≡ string_bytes l.fn.out ++ behind_spaces (shapes_for (others_written key_written (map key_tree l.keys)))

abbrev pub decreases-loop-key : goal.decreases-loop-key
decreases-loop-key l = length l.left
