use Rattle.std.proofs.Common.{length, map}
use Rattle.med_syntax.specs.Prelude.{terminals_of, item_tree}
use Rattle.query_reader.specs.QueryReading.{item_of}
use Rattle.query_reader.proofs.QueryLoop.{ListLoop}
use Rattle.query_reader.proofs.query_statement.items.Given as goal

abbrev pub invariant-loop-after : goal.invariant-loop-after
invariant-loop-after l = ListLoop (item_of l.room) (terminals_of l.symbols) (map item_tree l.list.items) (terminals_of l.rest)

abbrev pub decreases-loop-after : goal.decreases-loop-after
decreases-loop-after l = length (terminals_of l.rest)
