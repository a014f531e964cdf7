use Rattle.std.proofs.Common.{◌≡◌, ◌≤◌, ◌-◌}
use Rattle.list_wrapper.specs.Scans.{numbered, spec_is, params_of, left_in_turn}
use Rattle.list_wrapper.proofs.scans.next_within.Given as goal

abbrev pub invariant-loop-at : goal.invariant-loop-at
invariant-loop-at l = record {
  past : l.scan.at ≤ l.at;
  same : left_in_turn (spec_is l.scan) (params_of l.scan) (numbered 0 l.rows.items) l.scan.at ≡ left_in_turn (spec_is l.scan) (params_of l.scan) (numbered 0 l.rows.items) l.at;
}

abbrev pub decreases-loop-at : goal.decreases-loop-at
decreases-loop-at l = l.span.end - l.at
