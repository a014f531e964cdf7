use Rattle.std.proofs.Common.{List, length, map}
use Rattle.med_query.specs.Query.{Tables}
use Rattle.med_query.specs.declared.select.SelectCore.{SelectCore}
use Rattle.query_answer.specs.Gathering.{AreGathered}
use Rattle.query_answer.specs.Staging.{output_of}
use Rattle.query_answer.proofs.Unions.{Taken}
use Rattle.query_answer.proofs.answers.all_outputs.Given as goal

abbrev pub invariant-loop-one : goal.invariant-loop-one
invariant-loop-one l = (db : Tables) (cores : List SelectCore) → AreGathered db cores l.fn.gathered.items → Taken l.select db cores l.coming.rest.items (map output_of l.all.items)

abbrev pub decreases-loop-one : goal.decreases-loop-one
decreases-loop-one l = length l.coming.rest.items
