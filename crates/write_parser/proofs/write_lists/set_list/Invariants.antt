use Rattle.std.proofs.Common.{length, map}
use Rattle.med_syntax.specs.Prelude.{terminals_of, set_tree}
use Rattle.write_parser.specs.WriteReading.{set_of}
use Rattle.query_reader.proofs.QueryLoop.{ListLoop}
use Rattle.write_parser.proofs.write_lists.set_list.Given as goal

abbrev pub invariant-loop-after : goal.invariant-loop-after
invariant-loop-after l = ListLoop (set_of l.room) (terminals_of l.symbols) (map set_tree l.list.items) (terminals_of l.rest)

abbrev pub decreases-loop-after : goal.decreases-loop-after
decreases-loop-after l = length (terminals_of l.rest)
