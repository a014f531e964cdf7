use Rattle.std.proofs.Common.{◌≡◌, map, take}
use Rattle.med_value.specs.Datum.{datum}
use Rattle.fdw_api.specs.Scan.{pick}
use Rattle.csv_tables.specs.Tables.{cells_at}
use Rattle.csv_tables.proofs.table.CsvTable.picked.Given as goal

abbrev pub invariant-loop-column : goal.invariant-loop-column
invariant-loop-column l = map datum l.cells.items ≡ pick (take l.column-index l.wanted) (cells_at l.self l.at)
