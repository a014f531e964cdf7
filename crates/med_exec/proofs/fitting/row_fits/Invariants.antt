use Rattle.std.proofs.Common.{◌≡◌, length}
use Rattle.fdw_api.specs.Scan.{row_fits}
use Rattle.med_value.specs.Datum.{tuple}
use Rattle.med_exec.specs.Fitting.{kinds_written, row_placed}
use Rattle.med_exec.proofs.fitting.row_fits.Given as goal

abbrev pub invariant-loop-column : goal.invariant-loop-column
invariant-loop-column l =
    row_fits (kinds_written l.columns) (row_placed l.places (tuple l.row)) ≡ row_fits (kinds_written l.initial.columns) (row_placed l.initial.places (tuple l.row))

abbrev pub decreases-loop-column : goal.decreases-loop-column
decreases-loop-column l = length l.columns
