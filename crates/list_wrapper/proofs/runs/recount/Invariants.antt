use Rattle.std.proofs.Common.{◌≡◌, ◌≤◌, ◌-◌, length, take}
use Rattle.list_wrapper.specs.Runs.{rows_in, before, Counted}
use Rattle.list_wrapper.proofs.runs.recount.Given as goal

abbrev pub invariant-loop-at : goal.invariant-loop-at
invariant-loop-at l = record {
  within : l.at ≤ length l.runs.items;
  total : l.total ≡ before l.runs.items l.at;
  counted : Counted 0 (take l.at l.runs.items);
  rows : rows_in l.runs.items ≡ rows_in l.initial.runs.items;
}

abbrev pub decreases-loop-at : goal.decreases-loop-at
decreases-loop-at l = length l.runs.items - l.at
