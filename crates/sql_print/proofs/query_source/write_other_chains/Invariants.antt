use Rattle.std.proofs.Common.{◌≡◌, ◌++◌, length, map}
use Rattle.std.specs.String.{string_bytes}
use Rattle.med_lexer.specs.Printing.{behind_spaces}
use Rattle.expr_writer.specs.ExprPrinting.{shapes_for}
use Rattle.sql_print.specs.QueryPrinting.{others_written, chain_written}
use Rattle.med_syntax.specs.QueryView.{chain_tree}
use Rattle.sql_print.proofs.query_source.write_other_chains.Given as goal

abbrev pub invariant-loop-chain : goal.invariant-loop-chain
invariant-loop-chain l = string_bytes l.out ++ behind_spaces (shapes_for (others_written chain_written (map chain_tree l.left))) ≡ string_bytes l.fn.out ++ behind_spaces (shapes_for (others_written chain_written (map chain_tree l.chains)))

abbrev pub decreases-loop-chain : goal.decreases-loop-chain
decreases-loop-chain l = length l.left
