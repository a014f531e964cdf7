use Rattle.std.proofs.Common.{◌≡◌, take, []}
use Rattle.med_value.specs.Datum.{tuple}
use Rattle.med_query.specs.Query.{senses}
use Rattle.query_answer.specs.Staging.{arguments_told}
use Rattle.query_answer.proofs.filtering.check_arguments.Given as goal

abbrev pub invariant-loop-argument : goal.invariant-loop-argument
invariant-loop-argument l = arguments_told (senses [] (take l.argument-index l.arguments)) (tuple l.row) ≡ []
