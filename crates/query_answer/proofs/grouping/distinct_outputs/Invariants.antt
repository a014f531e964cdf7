use Rattle.std.proofs.Common.{◌≡◌, [], map}
use Rattle.med_query.specs.Query.{output_eq}
use Rattle.query_answer.specs.Keys.{keys_after, output_in}
use Rattle.query_answer.specs.Staging.{output_of}
use Rattle.query_answer.proofs.grouping.distinct_outputs.Given as goal

abbrev pub invariant-loop-one : goal.invariant-loop-one
invariant-loop-one l = map output_in l.seen.keys ≡ keys_after output_eq [] (map output_of l.yielded)
