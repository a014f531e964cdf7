use Rattle.std.proofs.Common.{◌≡◌, true, map, sym, rules}
use Rattle.med_value.specs.Datum.{datum}
use Rattle.csv_tables.specs.Tables.{cells_at, fields_at}
use Rattle.wrapper_parts.specs.Scans.{form_of}
use Rattle.csv_wrapper.proofs.places.found_comes.Goals as goal

pub returns-then-is_decided : goal.returns-then-is_decided
returns-then-is_decided c =
    let t = c.args.table.now in
    let is : c.is_decided.result ≡ true = search rules in
    sym (c.is_decided.ensures is (map datum c.args.params.now) (cells_at t c.args.at) (fields_at t c.args.at) (form_of c.args._found) c.requires.found c.requires.has)
