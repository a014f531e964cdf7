use Rattle.std.proofs.Common.{◌<◌, length, map, flat_map, option_map, ap, sym, ◌∙◌, arith}
use Rattle.std.proofs.lemmas.Result.{err_from_is_err_and}
use Rattle.med_value.specs.Column.{column_of}
use Rattle.med_syntax.specs.WriteView.{names_tree}
use Rattle.bind_names.proofs.Causes.{tells_first, tells_same, next_causes}
use Rattle.bind_names.proofs.Parts.{drop_read}
use Rattle.bind_types.specs.Kinds.{types_in}
use Rattle.bind_write.specs.Typing.{row_fit_causes}
use Rattle.bind_write.proofs.querying.check_answer.Goals as goal

pub returns-in_err-check_fit : goal.returns-in_err-check_fit
returns-in_err-check_fit c =
    let f = row_fit_causes (map column_of c.args.columns.now) (option_map names_tree c.args.names.now) in
    let lt : c.loop-row.row-index < length c.args.kinds.now = omega arith in
    let at = drop_read c.args.kinds.now c.loop-row.row-index c.row-item.result lt c.row-item.is in
    let p = err_from_is_err_and c.from_residual.result c.from_residual.ensures.1 in
    rw (p.1, p.2) (tells_first _ (f (types_in c.row-item.result)) _ _ (c.loop-row.invariant ∙ ap (λ xs. flat_map f (map types_in xs)) at) (tells_same _ _ _ (ap f c.as_slice.ensures.value) c.in_err-check_fit.ensures))

pub loop-row-preserved : goal.loop-row-preserved
loop-row-preserved c =
    let f = row_fit_causes (map column_of c.args.columns.now) (option_map names_tree c.args.names.now) in
    let lt : c.loop-row.row-index < length c.args.kinds.now = omega arith in
    let at = drop_read c.args.kinds.now c.loop-row.row-index c.row-item.result lt c.row-item.is in
    next_causes _ (f (types_in c.row-item.result)) _ (c.loop-row.invariant ∙ ap (λ xs. flat_map f (map types_in xs)) at) (ap f (sym c.as_slice.ensures.value) ∙ c.in_ok-check_fit.ensures)
