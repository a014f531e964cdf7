use Rattle.std.proofs.Common.{sym}
use Rattle.csv_tables.specs.Tables.{fields_at}
use Rattle.csv_tables.proofs.RowCells.{size_there, size_missing}
use Rattle.csv_tables.proofs.table.CsvTable.field_size.Goals as goal

pub returns-in-Some : goal.returns-in-Some
returns-in-Some c = sym (size_there (fields_at c.args.self.now c.args.at) c.args.column c.in-Some.field.now (sym c.in-Some.ensures))

pub returns-in-None : goal.returns-in-None
returns-in-None c = sym (size_missing (fields_at c.args.self.now c.args.at) c.args.column (sym c.in-None.ensures))
