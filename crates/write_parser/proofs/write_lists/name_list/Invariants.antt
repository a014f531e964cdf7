use Rattle.std.proofs.Common.{length, map}
use Rattle.med_syntax.specs.SymbolView.{terminals_of}
use Rattle.query_reader.specs.QueryReading.{read_name}
use Rattle.std.specs.String.{string_bytes}
use Rattle.query_reader.proofs.QueryLoop.{ListLoop}
use Rattle.write_parser.proofs.write_lists.name_list.Given as goal

abbrev pub invariant-loop-after : goal.invariant-loop-after
invariant-loop-after l = ListLoop read_name (terminals_of l.symbols) (map string_bytes l.list.items) (terminals_of l.rest)

abbrev pub decreases-loop-after : goal.decreases-loop-after
decreases-loop-after l = length (terminals_of l.rest)
