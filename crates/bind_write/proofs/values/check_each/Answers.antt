use Rattle.std.proofs.Common.{List, ◌<◌, length, map, flat_map, option_map, ap, ◌∙◌, arith}
use Rattle.std.proofs.lemmas.Result.{err_from_is_err_and}
use Rattle.med_value.specs.Column.{column_of}
use Rattle.med_syntax.specs.WriteView.{names_tree}
use Rattle.tri_expr.specs.Tree.{Tree}
use Rattle.med_write.specs.Form.{trees_of}
use Rattle.bind_names.proofs.Causes.{tells_first}
use Rattle.bind_names.proofs.Parts.{drop_read}
use Rattle.bind_write.specs.Typing.{row_fit_causes, row_types}
use Rattle.bind_write.proofs.values.check_each.Goals as goal

pub returns-in_err-check_row : goal.returns-in_err-check_row
returns-in_err-check_row c =
    let f = λ (ts : List Tree). row_fit_causes (map column_of c.args.columns.now) (option_map names_tree c.args.names.now) (row_types ts) in
    let lt : c.loop-row.row-index < length c.args.rows.now = omega arith in
    let at = drop_read c.args.rows.now c.loop-row.row-index c.row-item.result lt c.row-item.is in
    let p = err_from_is_err_and c.from_residual.result c.from_residual.ensures.1 in
    rw (p.1, p.2) (tells_first _ (f (trees_of c.row-item.result)) _ _ (c.loop-row.invariant ∙ ap (λ xs. flat_map f (map trees_of xs)) at) c.in_err-check_row.ensures)
