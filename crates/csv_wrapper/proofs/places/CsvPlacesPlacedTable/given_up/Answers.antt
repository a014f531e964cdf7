use Rattle.std.proofs.Common.{sym, string_bytes}
use Rattle.csv_tables.specs.Flat.{header_in}
use Rattle.csv_tables.specs.Drafted.{records_before}
use Rattle.csv_wrapper.proofs.Placing.{told_of, told_as}
use Rattle.csv_wrapper.proofs.places.CsvPlacesPlacedTable.given_up.Goals as goal

pub invariant_of-result : goal.invariant_of-result
invariant_of-result c =
    let w = c.args.draft.written in
    record { risen = λ told. told_as _ _ (c.args.draft.risen_before told) (sym (told_of c.given_up.result (string_bytes w.remote) w.layout (header_in w.before) (records_before w.rows) c.given_up.ensures)) }
