use Rattle.std.proofs.Common.{◌<◌, ◌∙◌, length, map, flat_map, ap, arith}
use Rattle.std.proofs.lemmas.Result.{err_from_is_err_and}
use Rattle.med_syntax.specs.ExprView.{expr_tree}
use Rattle.bind_names.specs.Scope.{scope_of}
use Rattle.bind_types.specs.Typing.{type_causes}
use Rattle.bind_names.proofs.Causes.{tells_first}
use Rattle.bind_names.proofs.Parts.{drop_read}
use Rattle.bind_types.proofs.values.type_values.Goals as goal

pub returns-in_err-type_of : goal.returns-in_err-type_of
returns-in_err-type_of c =
    let f = type_causes (scope_of c.args.scope.now) in
    let lt : c.loop-value.value-index < length c.args.values.now = omega arith in
    let at = drop_read c.args.values.now c.loop-value.value-index c.value-item.result lt c.value-item.is in
    let p = err_from_is_err_and c.from_residual.result c.from_residual.ensures.1 in
    rw (p.1, p.2) (tells_first _ (f (expr_tree c.value-item.result)) _ _ (c.loop-value.invariant ∙ ap (λ xs. flat_map f (map expr_tree xs)) at) c.in_err-type_of.ensures)
