use Rattle.std.proofs.Common.{◌<◌, ◌∙◌, length, map, flat_map, ap, arith}
use Rattle.std.proofs.lemmas.Result.{err_from_is_err_and}
use Rattle.med_syntax.specs.ExprView.{expr_tree}
use Rattle.bind_names.specs.Prelude.{scope_of, name_causes}
use Rattle.bind_names.proofs.Causes.{tells_first}
use Rattle.bind_names.proofs.Parts.{drop_read}
use Rattle.bind_query.proofs.values.resolve_values.Goals as goal

pub returns-in_err-value : goal.returns-in_err-value
returns-in_err-value c =
    let f = name_causes (scope_of c.args.scope.now) in
    let lt : c.loop-written.written-index < length c.args.values.now = omega arith in
    let at = drop_read c.args.values.now c.loop-written.written-index c.written-item.result lt c.written-item.is in
    let p = err_from_is_err_and c.from_residual-in_err-value.result c.from_residual-in_err-value.ensures.1 in
    rw (p.1, p.2) (tells_first _ (f (expr_tree c.written-item.result)) _ _ (c.loop-written.invariant.causes ∙ ap (λ xs. flat_map f (map expr_tree xs)) at) c.in_err-value.ensures)
