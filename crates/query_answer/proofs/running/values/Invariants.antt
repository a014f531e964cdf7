use Rattle.std.proofs.Common.{◌≡◌, List, map, take}
use Rattle.med_value.specs.Datum.{Tuple, datum}
use Rattle.query_answer.specs.Leaves.{leaf_values}
use Rattle.query_answer.specs.Running.{AllRun}
use Rattle.query_answer.proofs.running.values.Given as goal

abbrev pub invariant-loop-at : goal.invariant-loop-at
invariant-loop-at l = (c : List Tuple) → AllRun l.leaves c l.all → map datum l.out.items ≡ leaf_values (take l.at l.leaves) c
