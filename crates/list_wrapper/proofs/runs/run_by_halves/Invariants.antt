use Rattle.std.proofs.Common.{◌≤◌, ◌<◌, ◌-◌, length}
use Rattle.list_wrapper.specs.Runs.{before}
use Rattle.list_wrapper.proofs.runs.run_by_halves.Given as goal

abbrev pub invariant-loop-first : goal.invariant-loop-first
invariant-loop-first l = record {
  some : l.first < l.end;
  within : l.end ≤ length l.runs;
  from : before l.runs l.first ≤ l.place;
  to : l.place < before l.runs l.end;
}

abbrev pub decreases-loop-first : goal.decreases-loop-first
decreases-loop-first l = l.end - l.first
