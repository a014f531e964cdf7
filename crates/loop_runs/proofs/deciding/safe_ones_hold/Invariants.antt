use Rattle.std.proofs.Common.{◌≡◌, [], drop}
use Rattle.med_value.specs.Datum.{tuple}
use Rattle.med_query.specs.Query.{keeps, senses}
use Rattle.scan_loops.specs.Conjuncts.{safe_of}
use Rattle.loop_runs.proofs.deciding.safe_ones_hold.Given as goal

abbrev pub invariant-loop-conjunct : goal.invariant-loop-conjunct
invariant-loop-conjunct l = keeps (senses [] (safe_of (drop l.conjunct-index l.conjuncts))) (tuple l.row) ≡ keeps (senses [] (safe_of l.conjuncts)) (tuple l.row)
