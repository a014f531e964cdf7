use Rattle.std.proofs.Common.{◌≡◌, ◌++◌, ◌∷◌, [], List, length, take, drop}
use Rattle.med_value.specs.Datum.{Tuple, tuple}
use Rattle.query_answer.specs.Running.{AllRun}
use Rattle.query_answer.proofs.running.add_row.Given as goal

abbrev pub invariant-loop-at : goal.invariant-loop-at
invariant-loop-at l =
    record {
      long : length l.all.items ≡ length l.fn.all.items;
      rest : drop l.at l.all.items ≡ drop l.at l.fn.all.items;
      done : (c : List Tuple) → AllRun l.leaves c l.fn.all.items → AllRun (take l.at l.leaves) (c ++ tuple l.row ∷ []) (take l.at l.all.items);
    }
