use Rattle.std.proofs.Common.{sym, string_bytes}
use Rattle.csv_tables.specs.Flat.{header_in}
use Rattle.csv_tables.specs.Drafted.{records_kept}
use Rattle.csv_wrapper.proofs.Placing.{told_of, told_as}
use Rattle.csv_wrapper.proofs.places.CsvPlacesPlacedTable.kept.Goals as goal

pub invariant_of-result : goal.invariant_of-result
invariant_of-result c =
    let w = c.args.draft.written in
    record { risen = λ told. told_as _ _ (c.args.draft.risen told) (sym (told_of c.kept.result (string_bytes w.remote) w.layout (header_in w.after) (records_kept w.rows) c.kept.ensures)) }
