use Rattle.std.proofs.Common.{◌<◌, ◌∙◌, ap, arith}
use Rattle.csv_tables.specs.Held.{special_in}
use Rattle.csv_tables.proofs.Holding.{text_all}
use Rattle.csv_tables.proofs.Shown.{plain_rows}
use Rattle.csv_tables.proofs.plain.are_plain.Goals as goal

pub returns : goal.returns
returns c = λ is rows whole lines.
    let f = c.args.fields.now in
    let lt : 1 < c.args.width = omega (arith, c.if-width-lt2.false) in
    plain_rows c.args.width f rows lt whole lines c.special_in.result c.len-size.result is c.len-size.ensures
    (c.special_in.ensures ∙ ap special_in (c.text.ensures ∙ text_all f c.len-size.result c.len-size.ensures))
