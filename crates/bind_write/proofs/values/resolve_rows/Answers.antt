use Rattle.std.proofs.Common.{◌<◌, ◌∙◌, length, map, flat_map, ap, arith}
use Rattle.std.proofs.lemmas.Result.{err_from_is_err_and}
use Rattle.med_syntax.specs.WriteView.{row_tree}
use Rattle.bind_names.proofs.Causes.{tells_first}
use Rattle.bind_names.proofs.Parts.{drop_read}
use Rattle.bind_write.specs.Naming.{row_name_causes}
use Rattle.bind_write.proofs.values.resolve_rows.Goals as goal

pub returns-in_err-values : goal.returns-in_err-values
returns-in_err-values c =
    let lt : c.loop-row.row-index < length c.args.rows.now = omega arith in
    let at = drop_read c.args.rows.now c.loop-row.row-index c.row-item.result lt c.row-item.is in
    let p = err_from_is_err_and c.from_residual-in_err-values.result c.from_residual-in_err-values.ensures.1 in
    rw (p.1, p.2) (tells_first _ (row_name_causes (row_tree c.row-item.result)) _ _ (c.loop-row.invariant.causes ∙ ap (λ xs. flat_map row_name_causes (map row_tree xs)) at)
    (rw c.as_slice.ensures.value at c.in_err-values.ensures))
