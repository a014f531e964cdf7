use Rattle.std.proofs.Common.{length, map}
use Rattle.med_syntax.specs.Prelude.{terminals_of, key_tree}
use Rattle.query_reader.specs.QueryReading.{key_of}
use Rattle.query_reader.proofs.QueryLoop.{ListLoop}
use Rattle.query_reader.proofs.query_keys.key_list.Given as goal

abbrev pub invariant-loop-after : goal.invariant-loop-after
invariant-loop-after l = ListLoop (key_of l.room) (terminals_of l.symbols) (map key_tree l.list.items) (terminals_of l.rest)

abbrev pub decreases-loop-after : goal.decreases-loop-after
decreases-loop-after l = length (terminals_of l.rest)
