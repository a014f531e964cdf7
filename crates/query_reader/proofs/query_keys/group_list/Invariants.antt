use Rattle.std.proofs.Common.{length, map}
use Rattle.med_syntax.specs.Prelude.{terminals_of, group_tree}
use Rattle.query_reader.specs.QueryReading.{group_of}
use Rattle.query_reader.proofs.QueryLoop.{ListLoop}
use Rattle.query_reader.proofs.query_keys.group_list.Given as goal

abbrev pub invariant-loop-after : goal.invariant-loop-after
invariant-loop-after l = ListLoop group_of (terminals_of l.symbols) (map group_tree l.list.items) (terminals_of l.rest)

abbrev pub decreases-loop-after : goal.decreases-loop-after
decreases-loop-after l = length (terminals_of l.rest)
