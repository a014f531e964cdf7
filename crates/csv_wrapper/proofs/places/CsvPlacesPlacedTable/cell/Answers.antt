use Rattle.std.proofs.Common.{◌∙◌, ap}
use Rattle.std.proofs.lemmas.Result.{IfOk-weaker}
use Rattle.med_value.specs.Datum.{Tuple, cell}
use Rattle.csv_wrapper.proofs.Placing.{within_count, cells_there}
use Rattle.csv_wrapper.proofs.places.CsvPlacesPlacedTable.cell.Goals as goal

pub value-requires : goal.value-requires
value-requires c = within_count c.args.self.now.table c.args.at c.requires

pub returns : goal.returns
returns c = IfOk-weaker c.value.result _ _
    (λ v e r is. e ∙ ap (λ (cells : Tuple). cell cells c.args.column) (cells_there c.args.self.now.table c.args.at r c.requires is)) c.value.ensures
