use Rattle.std.proofs.Common.{◌≡◌, map, drop}
use Rattle.med_value.specs.Datum.{tuple}
use Rattle.med_exec.specs.Fitting.{kinds_written, answer_fits}
use Rattle.med_exec.proofs.fitting.rows_fit.Given as goal

abbrev pub invariant-loop-row : goal.invariant-loop-row
invariant-loop-row l =
    answer_fits (kinds_written l.columns) l.places (map tuple l.answer) ≡ answer_fits (kinds_written l.columns) l.places (map tuple (drop l.row-index l.answer))
