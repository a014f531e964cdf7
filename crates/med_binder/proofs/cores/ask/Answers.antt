use Rattle.std.proofs.Common.{map, ap}
use Rattle.std.proofs.lemmas.Result.{err_from_is_err_and}
use Rattle.med_syntax.specs.QueryView.{group_tree, core_tree}
use Rattle.bind_names.specs.Scope.{table_shape, scope_of}
use Rattle.med_binder.proofs.CoreSteps.{condition_told, group_told, having_told}
use Rattle.med_binder.proofs.cores.ask.Goals as goal

pub returns-in_err-conditions_met : goal.returns-in_err-conditions_met
returns-in_err-conditions_met c =
    let p = err_from_is_err_and c.from_residual-in_err-conditions_met.result c.from_residual-in_err-conditions_met.ensures.1 in
    rw (p.1, p.2) (condition_told (map table_shape c.args.tables.now) (scope_of c.args.scope.now) (core_tree c.args.core.now) _ c.in_err-conditions_met.ensures)

pub returns-in_err-places : goal.returns-in_err-places
returns-in_err-places c =
    let p = err_from_is_err_and c.from_residual-in_err-places.result c.from_residual-in_err-places.ensures.1 in
    rw (p.1, p.2) (group_told (map table_shape c.args.tables.now) (scope_of c.args.scope.now) (core_tree c.args.core.now) _ _ (ap (λ xs. map group_tree xs) c.as_slice-2.ensures.value) c.in_err-places.ensures)

pub returns-in_err-having : goal.returns-in_err-having
returns-in_err-having c =
    let p = err_from_is_err_and c.from_residual-in_err-having.result c.from_residual-in_err-having.ensures.1 in
    rw (p.1, p.2) (having_told (map table_shape c.args.tables.now) (scope_of c.args.scope.now) (core_tree c.args.core.now) _ c.in_err-having.ensures)
