use Rattle.std.proofs.Common.{◌≡◌, ◌≤◌, ◌<◌, ◌-◌, ℕ, true, false, length}
use Rattle.med_value.specs.Datum.{cell}
use Rattle.wrapper_parts.specs.Halves.{is_under}
use Rattle.list_wrapper.specs.Scans.{keys_of}
use Rattle.list_wrapper.proofs.spans.first_at_least.Given as goal

abbrev pub invariant-loop-first : goal.invariant-loop-first
invariant-loop-first l = record {
  ordered : l.first ≤ l.end;
  within : l.end ≤ length l.rows.items;
  before : (k : ℕ) → k < l.first → is_under l.key (cell (keys_of l.rows.items) k) ≡ true;
  behind : (k : ℕ) → l.end ≤ k → k < length l.rows.items → is_under l.key (cell (keys_of l.rows.items) k) ≡ false;
}

abbrev pub decreases-loop-first : goal.decreases-loop-first
decreases-loop-first l = l.end - l.first
