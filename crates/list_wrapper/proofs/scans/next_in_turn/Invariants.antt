use Rattle.std.proofs.Common.{◌≡◌, ◌≤◌, ◌<◌, ◌+◌, ◌-◌, length}
use Rattle.wrapper_parts.specs.Scans.{Stands}
use Rattle.list_wrapper.specs.Scans.{numbered, spec_is, params_of, index_of, left_in_turn}
use Rattle.list_wrapper.proofs.scans.next_in_turn.Given as goal

abbrev pub invariant-loop-at : goal.invariant-loop-at
invariant-loop-at l = record {
  past : l.scan.at ≤ l.at;
  same : left_in_turn (spec_is l.scan) (params_of l.scan) (numbered 0 l.rows.items) l.scan.at ≡ left_in_turn (spec_is l.scan) (params_of l.scan) (numbered 0 l.rows.items) l.at;
  on : l.at < length (numbered 0 l.rows.items) → Stands (spec_is l.scan) (params_of l.scan) (numbered 0 l.rows.items) (l.at + 1) (index_of l.scan.walk);
}

abbrev pub decreases-loop-at : goal.decreases-loop-at
decreases-loop-at l = length l.rows.items - l.at
