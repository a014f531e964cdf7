use Rattle.std.proofs.Common.{◌∙◌, Some, FitsSigned, w64, ap, sym, rules, refl, arith}
use Rattle.std.proofs.lemmas.Int.{to_z-of_z}
use Rattle.sqlite_tables.proofs.ColumnReads.{adds_none, row_more}
use Rattle.sqlite_tables.proofs.reading.add_page.Goals as goal

pub loop-row-init : goal.loop-row-init
loop-row-init c = record { adds = adds_none c.args.shape.now c.args.column c.args.read.now; last = refl }

pub loop-row-preserved : goal.loop-row-preserved
loop-row-preserved c =
    let fits : FitsSigned w64 c.in-Ok.key = search rules in
    let e = to_z-of_z w64 c.in-Ok.key fits in
    let m = row_more c.args.shape.now c.args.column c.args.page.now c.loop-row.row-index c.row-item.result c.args.read.now
    c.loop-row.read c.add_row.new.read (omega arith) c.row-item.is
    c.loop-row.invariant.adds c.in-Ok.ensures.adds in
    record { adds = m.0; last = rw e (ap Some c.in-Ok.ensures.key ∙ sym m.1) }
