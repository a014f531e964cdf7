use Rattle.wrapper_parts.specs.KeepingRise.{RiseUpTo}
use Rattle.jsonl_wrapper.specs.Tables.{readers_in, lines_in}
use Rattle.jsonl_wrapper.specs.Rises.{first_column}
use Rattle.jsonl_wrapper.proofs.rises.first_rises.Given as goal

abbrev pub invariant-loop-at : goal.invariant-loop-at
invariant-loop-at l = RiseUpTo (first_column (readers_in l.table) (lines_in l.table)) l.low l.at
