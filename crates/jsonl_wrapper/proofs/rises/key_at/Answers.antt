use Rattle.std.proofs.Common.{◌≡◌, ◌<◌, ◌∙◌, length, sym, FitsSigned, w64, rules, arith}
use Rattle.std.proofs.lemmas.Int.{to_z-of_z}
use Rattle.med_value.specs.Datum.{Whole, cell}
use Rattle.jsonl_wrapper.specs.Tables.{readers_in, lines_in, row_cells}
use Rattle.jsonl_wrapper.proofs.RisingKeys.{key_there, lines_count}
use Rattle.jsonl_wrapper.proofs.rises.key_at.Goals as goal

pub returns-in-Some-Int : goal.returns-in-Some-Int
returns-in-Some-Int c =
    let t = c.args.table.now in
    let key = c.in-Some-Int.key in
    let fits : FitsSigned w64 key = search rules in
    let is : Whole key ≡ cell (row_cells t c.args.at) 0 = rw c.in-Some-Int.field-0-is at c.in-Some-Int.ensures in
    let many = lines_count t in
    let there : c.args.at < length (lines_in t) = omega arith in
    rw (to_z-of_z w64 key fits) (record { is = key_there (readers_in t) (lines_in t) c.args.at there ∙ sym is; fits = fits })
