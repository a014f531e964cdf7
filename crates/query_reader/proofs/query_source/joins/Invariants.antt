use Rattle.std.proofs.Common.{length, map}
use Rattle.med_syntax.specs.Prelude.{terminals_of, join_tree}
use Rattle.query_reader.proofs.QueryLoop.{JoinsLoop}
use Rattle.query_reader.proofs.query_source.joins.Given as goal

abbrev pub invariant-loop-way : goal.invariant-loop-way
invariant-loop-way l = JoinsLoop l.room (terminals_of l.symbols) (map join_tree l.list.items) (terminals_of l.rest)

abbrev pub decreases-loop-way : goal.decreases-loop-way
decreases-loop-way l = length (terminals_of l.rest)
