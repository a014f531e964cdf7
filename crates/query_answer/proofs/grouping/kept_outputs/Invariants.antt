use Rattle.std.proofs.Common.{◌≡◌, ◌++◌, map}
use Rattle.query_answer.specs.Keys.{output_in}
use Rattle.query_answer.specs.Staging.{output_of}
use Rattle.query_answer.proofs.grouping.kept_outputs.Given as goal

abbrev pub invariant-loop-key : goal.invariant-loop-key
invariant-loop-key l = map output_of l.out.items ++ map output_in l.key-iterator ≡ map output_in l.fn.seen.keys
