use Rattle.std.proofs.Common.{◌≡◌, map, length}
use Rattle.med_value.specs.Datum.{datum}
use Rattle.fdw_api.specs.Scan.{restriction_form}
use Rattle.csv_tables.specs.Tables.{cells_at, fields_at}
use Rattle.csv_tables.specs.Scans.{comes}
use Rattle.csv_tables.proofs.scan.comes.Given as goal

abbrev pub invariant-loop-restriction : goal.invariant-loop-restriction
invariant-loop-restriction l =
    comes (map restriction_form l.initial.offered) l.initial.answers (map datum l.params) (cells_at l.table l.at) (fields_at l.table l.at)
    ≡ comes (map restriction_form l.offered) l.answers (map datum l.params) (cells_at l.table l.at) (fields_at l.table l.at)

abbrev pub decreases-loop-restriction : goal.decreases-loop-restriction
decreases-loop-restriction l = length l.offered
