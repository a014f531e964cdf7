use Rattle.std.proofs.Common.{sym}
use Rattle.csv_tables.proofs.Placing.{rows_count}
use Rattle.csv_wrapper.proofs.places.CsvPlacesPlacedTable.count.Goals as goal

pub returns : goal.returns
returns c = sym (rows_count c.args.self.now.table)
