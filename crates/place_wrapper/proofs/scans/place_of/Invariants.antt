use Rattle.std.proofs.Common.{◌<◌, ◌-◌, length}
use Rattle.place_wrapper.proofs.Entries.{Among}
use Rattle.place_wrapper.proofs.scans.place_of.Given as goal

abbrev pub invariant-loop-first : goal.invariant-loop-first
invariant-loop-first l = record {
  within : l.end < length l.scans.items;
  among : Among l.scans.items l.number l.first l.end;
}

abbrev pub decreases-loop-first : goal.decreases-loop-first
decreases-loop-first l = l.end - l.first
