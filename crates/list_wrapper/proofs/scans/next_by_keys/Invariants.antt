use Rattle.std.proofs.Common.{◌≡◌, ◌≤◌, ◌-◌, length}
use Rattle.list_wrapper.specs.Scans.{numbered, left_by_keys}
use Rattle.list_wrapper.proofs.scans.next_by_keys.Given as goal

abbrev pub invariant-loop-at : goal.invariant-loop-at
invariant-loop-at l = record {
  past : l.scan.at ≤ l.at;
  same : left_by_keys l.places (numbered 0 l.rows.items) l.scan.at ≡ left_by_keys l.places (numbered 0 l.rows.items) l.at;
}

abbrev pub decreases-loop-at : goal.decreases-loop-at
decreases-loop-at l = length l.places - l.at
