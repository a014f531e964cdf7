use Rattle.std.proofs.Common.{◌≡◌, ◌≤◌, ◌<◌, ◌-◌, ℕ, true, false, length}
use Rattle.med_value.specs.Datum.{cell}
use Rattle.wrapper_parts.specs.Scans.{column_cells}
use Rattle.wrapper_parts.specs.Halves.{is_under}
use Rattle.place_wrapper.proofs.spans.first_at_least.Given as goal

abbrev pub invariant-loop-first : goal.invariant-loop-first
invariant-loop-first g l = record {
  ordered : l.first ≤ l.end;
  within : l.end ≤ length (g.T.PlacedTable.form.rows l.table);
  before : (k : ℕ) → k < l.first → is_under l.key (cell (column_cells 0 (g.T.PlacedTable.form.rows l.table)) k) ≡ true;
  behind : (k : ℕ) → l.end ≤ k → k < length (g.T.PlacedTable.form.rows l.table)
      → is_under l.key (cell (column_cells 0 (g.T.PlacedTable.form.rows l.table)) k) ≡ false;
}

abbrev pub decreases-loop-first : goal.decreases-loop-first
decreases-loop-first g l = l.end - l.first
