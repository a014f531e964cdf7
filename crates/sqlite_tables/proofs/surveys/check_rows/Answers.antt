use Rattle.std.proofs.Common.{◌∙◌, Some, FitsSigned, w64, ap, sym, rules, arith}
use Rattle.std.proofs.lemmas.Int.{to_z-of_z}
use Rattle.sqlite_tables.specs.Surveys.{fits_in}
use Rattle.sqlite_tables.proofs.Surveying.{row_more}
use Rattle.sqlite_tables.proofs.surveys.check_rows.Goals as goal

pub loop-row-preserved : goal.loop-row-preserved
loop-row-preserved c =
    let fits : FitsSigned w64 c.in-Ok.key = search rules in
    let e = to_z-of_z w64 c.in-Ok.key fits in
    let m = row_more (fits_in c.args.shape.now) c.args.page.now c.loop-row.row-index c.row-item.result
    (omega arith) c.row-item.is c.loop-row.invariant.fit c.in-Ok.ensures.fits in
    record { fit = m.0; last = rw e (ap Some c.in-Ok.ensures.key ∙ sym m.1) }
