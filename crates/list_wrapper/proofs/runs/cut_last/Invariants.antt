use Rattle.std.proofs.Common.{◌≡◌, ◌<◌, length}
use Rattle.list_wrapper.specs.Runs.{rows_in, run_rows}
use Rattle.list_wrapper.proofs.runs.cut_last.Given as goal

abbrev pub invariant-loop-runs : goal.invariant-loop-runs
invariant-loop-runs l = record {
  there : l.last < length l.runs.items;
  rows : rows_in l.runs.items ≡ rows_in l.initial.runs.items;
}

abbrev pub decreases-loop-runs : goal.decreases-loop-runs
decreases-loop-runs l = length (run_rows l.runs.items l.last)
