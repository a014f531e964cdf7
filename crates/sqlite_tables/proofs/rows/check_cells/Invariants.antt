use Rattle.std.proofs.Common.{◌≡◌, false, length}
use Rattle.fdw_api.specs.Scan.{row_fits}
use Rattle.sqlite_tables.specs.Cells.{are_below, cells_at}
use Rattle.sqlite_tables.specs.Layouts.{kinds_at}
use Rattle.sqlite_tables.proofs.rows.check_cells.Given as goal

abbrev pub invariant-loop-column : goal.invariant-loop-column
invariant-loop-column l = record {
  fits : row_fits (kinds_at l.initial.left) (cells_at l.initial.left l.row) ≡ row_fits (kinds_at l.left) (cells_at l.left l.row);
  below : are_below (length l.row) l.left ≡ false → are_below (length l.row) l.initial.left ≡ false;
}

abbrev pub decreases-loop-column : goal.decreases-loop-column
decreases-loop-column l = length l.left
