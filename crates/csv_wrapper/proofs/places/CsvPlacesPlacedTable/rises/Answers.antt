use Rattle.csv_tables.specs.Rises.{first_column}
use Rattle.csv_wrapper.proofs.RisingTold.{rise_known}
use Rattle.csv_wrapper.proofs.places.CsvPlacesPlacedTable.rises.Goals as goal

pub returns : goal.returns
returns c = λ told. rise_known (first_column c.args.self.now.table) (c.args.self.now.risen told)
