use Rattle.std.proofs.Common.{◌≡◌, ◌≤◌, ◌++◌, ◌-◌, drop, take, length}
use Rattle.list_wrapper.specs.Stay.{stay}
use Rattle.list_wrapper.proofs.runs.take_out.Given as goal

abbrev pub invariant-loop-at : goal.invariant-loop-at
invariant-loop-at l = record {
  behind : l.kept ≤ l.at;
  same : take l.kept l.rows.items ++ stay (drop l.at l.rows.items) (drop l.at l.fn.gone) ≡ stay l.initial.rows.items l.fn.gone;
}

abbrev pub decreases-loop-at : goal.decreases-loop-at
decreases-loop-at l = length l.rows.items - l.at
