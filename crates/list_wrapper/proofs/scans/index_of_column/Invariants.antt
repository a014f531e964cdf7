use Rattle.std.proofs.Common.{◌≤◌, length, drop}
use Rattle.wrapper_parts.specs.Indexes.{IsIndexFrom}
use Rattle.wrapper_parts.specs.Scans.{column_cells}
use Rattle.list_wrapper.specs.Scans.{numbered}
use Rattle.list_wrapper.proofs.scans.index_of_column.Given as goal

abbrev pub invariant-loop-at : goal.invariant-loop-at
invariant-loop-at l = record {
  within : l.at ≤ length l.rows.items;
  is : IsIndexFrom l.at (column_cells l.column (drop l.at (numbered 0 l.rows.items))) l.index;
}

abbrev pub decreases-loop-at : goal.decreases-loop-at
decreases-loop-at l = l.at
