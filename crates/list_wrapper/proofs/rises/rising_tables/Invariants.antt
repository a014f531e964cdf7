use Rattle.std.proofs.Common.{◌≡◌, ◌≤◌, ◌-◌, length}
use Rattle.list_wrapper.specs.Scans.{Rises}
use Rattle.list_wrapper.proofs.rises.rising_tables.Given as goal

abbrev pub invariant-loop-at : goal.invariant-loop-at
invariant-loop-at l = record {
  within : l.at ≤ length l.tables.items;
  marked : length l.rising.items ≡ l.at;
  rises : Rises l.tables.items l.rising.items;
}

abbrev pub decreases-loop-at : goal.decreases-loop-at
decreases-loop-at l = length l.tables.items - l.at
