use Rattle.std.proofs.Common.{◌≡◌, ◌-◌, length}
use Rattle.list_wrapper.specs.Runs.{rows_in}
use Rattle.list_wrapper.proofs.runs.drop_empty_runs.Given as goal

abbrev pub invariant-loop-at : goal.invariant-loop-at
invariant-loop-at l = rows_in l.runs.items ≡ rows_in l.initial.runs.items

abbrev pub decreases-loop-at : goal.decreases-loop-at
decreases-loop-at l = length l.runs.items - l.at
