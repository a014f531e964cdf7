use Rattle.std.proofs.Common.{◌≡◌, ◌∙◌, sym, FitsSigned, w64, rules}
use Rattle.std.proofs.lemmas.Int.{to_z-of_z}
use Rattle.med_value.specs.Datum.{Whole, cell}
use Rattle.csv_tables.specs.Tables.{cells_at}
use Rattle.csv_tables.proofs.RisingKeys.{key_there}
use Rattle.csv_tables.proofs.rises.key_at.Goals as goal

pub returns-in-Ok-Int : goal.returns-in-Ok-Int
returns-in-Ok-Int c =
    let t = c.args.table.now in
    let key = c.in-Ok-Int.key in
    let fits : FitsSigned w64 key = search rules in
    let is : Whole key ≡ cell (cells_at t c.args.at) 0 = rw c.in-Ok-Int.field-0-is at c.in-Ok-Int.ensures in
    rw (to_z-of_z w64 key fits) (record { is = key_there t c.args.at c.requires ∙ sym is; fits = fits })
