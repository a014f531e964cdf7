use Rattle.std.proofs.Common.{◌<◌, length, ◌∙◌, Some, ap, sym, arith}
use Rattle.std.proofs.lemmas.Option.{slice_get-get_or}
use Rattle.std.proofs.lemmas.Result.{err_from_is_err_and}
use Rattle.med_value.specs.Column.{column_of}
use Rattle.bind_names.proofs.Causes.{tells_first}
use Rattle.bind_write.specs.Typing.{column_causes}
use Rattle.bind_write.proofs.PartCells.{cells_step}
use Rattle.bind_write.proofs.kinds.check_cells.Goals as goal

pub returns-in_err-check_column-in-Some : goal.returns-in_err-check_column-in-Some
returns-in_err-check_column-in-Some c =
    let lt : c.loop-place.place < length c.args.columns.now = omega arith in
    let p = err_from_is_err_and c.from_residual.result c.from_residual.ensures.1 in
    let given = c.in-Some.kind.now in
    let within = c.in-Some.ensures.lookup.3.0 in
    let got = slice_get-get_or c.args.given.now c.loop-place.place given within ∙ ap Some (sym (c.in-Some.ensures.lookup.3.1 given)) in
    let x = c.index-columns-place.result in
    let step = cells_step c.args.columns.now c.args.given.now c.loop-place.place x c.in-Some.kind.now lt c.index-columns-place.is got in
    rw (p.1, p.2) (tells_first _ (column_causes (column_of x) c.in-Some.kind.now) _ _ (c.loop-place.invariant ∙ step) c.in_err-check_column-in-Some.ensures)
