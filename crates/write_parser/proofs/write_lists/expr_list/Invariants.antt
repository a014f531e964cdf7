use Rattle.std.proofs.Common.{length, map}
use Rattle.med_syntax.specs.Prelude.{terminals_of, expr_tree}
use Rattle.med_syntax.specs.ExprReading.{below}
use Rattle.query_reader.proofs.QueryLoop.{ListLoop}
use Rattle.write_parser.proofs.write_lists.expr_list.Given as goal

abbrev pub invariant-loop-after : goal.invariant-loop-after
invariant-loop-after l = ListLoop (below l.room).whole (terminals_of l.symbols) (map expr_tree l.list.items) (terminals_of l.rest)

abbrev pub decreases-loop-after : goal.decreases-loop-after
decreases-loop-after l = length (terminals_of l.rest)
