use Rattle.std.proofs.Common.{ap, map, flat_map, option_map, ◌∙◌}
use Rattle.std.proofs.lemmas.List.Elements.{Contains-append_left, Contains-append_right}
use Rattle.std.proofs.lemmas.Result.{err_from_is_err_and}
use Rattle.med_syntax.specs.ExprView.{expr_tree}
use Rattle.tri_expr.specs.Tree.{tree}
use Rattle.bind_names.specs.Prelude.{name_causes, condition_name_causes, scope_of}
use Rattle.bind_write.specs.Asking.{value_names}
use Rattle.bind_write.specs.Typing.{asked_types}
use Rattle.bind_write.proofs.Lists.{names_in_turn}
use Rattle.bind_write.proofs.Expressions.{types_told, values_bound}
use Rattle.bind_write.proofs.write_values.bind_values.Goals as goal

pub returns-in_err-resolve_values : goal.returns-in_err-resolve_values
returns-in_err-resolve_values c =
    let s = scope_of c.args.scope.now in
    let es = map expr_tree c.args.values.now in
    let w = option_map expr_tree c.args.condition.now in
    let p = err_from_is_err_and c.from_residual.result c.from_residual.ensures.1 in
    rw (p.1, p.2) (names_in_turn (flat_map (name_causes s) es) (value_names s es w) (asked_types s es w) _ (λ d h. Contains-append_left (flat_map (name_causes s) es) (condition_name_causes s w) d h)
    c.in_err-resolve_values.ensures)

pub returns-in_err-conditions : goal.returns-in_err-conditions
returns-in_err-conditions c =
    let s = scope_of c.args.scope.now in
    let es = map expr_tree c.args.values.now in
    let w = option_map expr_tree c.args.condition.now in
    let p = err_from_is_err_and c.from_residual-in_err-conditions.result c.from_residual-in_err-conditions.ensures.1 in
    rw (p.1, p.2) (names_in_turn (condition_name_causes s w) (value_names s es w) (asked_types s es w) _ (λ d h. Contains-append_right (flat_map (name_causes s) es) (condition_name_causes s w) d h)
    c.in_err-conditions.ensures)

pub returns-in_err-check_types : goal.returns-in_err-check_types
returns-in_err-check_types c =
    let s = scope_of c.args.scope.now in
    let es = map expr_tree c.args.values.now in
    let w = option_map expr_tree c.args.condition.now in
    let p = err_from_is_err_and c.from_residual-in_err-check_types.result c.from_residual-in_err-check_types.ensures.1 in
    rw (p.1, p.2) (types_told s es w _ _ _ c.in_ok-resolve_values.ensures.1 c.in_ok-conditions.ensures.1
    (ap (map tree) c.as_slice.ensures.value ∙ c.in_ok-resolve_values.ensures.0) (ap (map tree) c.as_slice-2.ensures.value ∙ c.in_ok-conditions.ensures.0) c.in_err-check_types.ensures)

pub returns : goal.returns
returns c =
    let s = scope_of c.args.scope.now in
    let es = map expr_tree c.args.values.now in
    let w = option_map expr_tree c.args.condition.now in
    values_bound s es w _ _ _ c.in_ok-resolve_values.ensures.0 c.in_ok-conditions.ensures.0 c.in_ok-resolve_values.ensures.1 c.in_ok-conditions.ensures.1
    (ap (map tree) c.as_slice.ensures.value ∙ c.in_ok-resolve_values.ensures.0) (ap (map tree) c.as_slice-2.ensures.value ∙ c.in_ok-conditions.ensures.0) c.in_ok-check_types.ensures
