use Rattle.std.proofs.Common.{◌≡◌, ◌≤◌, ◌-◌, ◌++◌, length, drop, take}
use Rattle.list_wrapper.specs.Runs.{rows_in}
use Rattle.list_wrapper.specs.Stay.{stay}
use Rattle.list_wrapper.proofs.runs.take_out_of_each.Given as goal

abbrev pub invariant-loop-at : goal.invariant-loop-at
invariant-loop-at l = record {
  within : l.at ≤ length l.runs.items;
  same : rows_in (take l.at l.runs.items) ++ stay (rows_in (drop l.at l.runs.items)) l.marks ≡ stay (rows_in l.initial.runs.items) l.fn.gone;
}

abbrev pub decreases-loop-at : goal.decreases-loop-at
decreases-loop-at l = length l.runs.items - l.at
