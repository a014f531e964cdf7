use Rattle.std.proofs.Common.{◌≡◌, ◌≤◌, ◌-◌, length, drop, filter, map}
use Rattle.med_value.specs.Datum.{datum}
use Rattle.fdw_api.specs.Scan.{spec_of}
use Rattle.place_wrapper.proofs.scans.plain_row.Given as goal

abbrev pub invariant-loop-place : goal.invariant-loop-place
invariant-loop-place g l = record {
  past : l.scan.at ≤ l.place;
  same : filter (g.T.PlacedTable.form.takes l.table (spec_of l.scan.spec) (map datum l.scan.params.items)) (drop l.scan.at (g.T.PlacedTable.form.rows l.table))
      ≡ filter (g.T.PlacedTable.form.takes l.table (spec_of l.scan.spec) (map datum l.scan.params.items)) (drop l.place (g.T.PlacedTable.form.rows l.table));
}

abbrev pub decreases-loop-place : goal.decreases-loop-place
decreases-loop-place g l = length (g.T.PlacedTable.form.rows l.table) - l.place
