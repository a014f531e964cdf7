use Rattle.std.proofs.Common.{length, map}
use Rattle.med_syntax.specs.Prelude.{terminals_of, core_tree}
use Rattle.query_reader.proofs.QueryLoop.{UnionsLoop}
use Rattle.query_reader.proofs.query_statement.unions.Given as goal

abbrev pub invariant-loop-after : goal.invariant-loop-after
invariant-loop-after l = UnionsLoop l.room (terminals_of l.symbols) (map core_tree l.others.items) (terminals_of l.rest)

abbrev pub decreases-loop-after : goal.decreases-loop-after
decreases-loop-after l = length (terminals_of l.rest)
