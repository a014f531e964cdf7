use Rattle.std.proofs.Common.{◌<◌, ◌≡◌, ◌∙◌, true, ap, length, arith, rules}
use Rattle.csv.specs.Records.{fields_of}
use Rattle.csv_tables.specs.Held.{special_in}
use Rattle.csv_tables.proofs.Shown.{record_plain}
use Rattle.csv_tables.proofs.plain.stay_plain.Goals as goal

pub returns : goal.returns
returns c =
    let row = c.args.row.now in
    let was : c.args.plain ≡ true = search rules in
    let lt : 1 < length (fields_of row) = omega arith in
    λ none. (was, record_plain row c.special_in.result lt none (c.special_in.ensures ∙ ap special_in c.as_slice.ensures))
