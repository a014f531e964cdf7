use Rattle.std.proofs.Common.{◌≡◌, List, map, ap, sym, ◌∙◌}
use Rattle.std.proofs.lemmas.Result.{err_from_is_err_and}
use Rattle.med_syntax.specs.declared.statement.Chain.{Chain}
use Rattle.med_syntax.specs.QueryView.{item_tree, chain_tree, core_tree}
use Rattle.tri_expr.specs.Tree.{tree}
use Rattle.bind_names.specs.Prelude.{output_values, keys_sorting, table_shape, scope_of, from_scope}
use Rattle.bind_query.specs.Resolving.{sorting_form}
use Rattle.med_binder.proofs.CoreSteps.{shown_same, item_told, core_told, completed_is}
use Rattle.med_binder.proofs.cores.resolved_core.Goals as goal

pub returns-in_err-outputs : goal.returns-in_err-outputs
returns-in_err-outputs c =
    let tables = map table_shape c.args.tables.now in
    let k = core_tree c.args.core.now in
    let own = c.in_ok-scope.ensures.0 ∙ ap (λ (chains : List Chain). from_scope tables (map chain_tree chains)) c.as_slice.ensures.value in
    let p = err_from_is_err_and c.from_residual-in_err-outputs.result c.from_residual-in_err-outputs.ensures.1 in
    rw (p.1, p.2) (core_told tables k _ _ (ap scope_of c.as_slice-2.ensures.value ∙ own) (item_told tables _ k _ _ (ap (map item_tree) c.as_slice-3.ensures.value) c.in_err-outputs.ensures))

pub returns-in_err-found : goal.returns-in_err-found
returns-in_err-found c =
    let tables = map table_shape c.args.tables.now in
    let own = c.in_ok-scope.ensures.0 ∙ ap (λ (chains : List Chain). from_scope tables (map chain_tree chains)) c.as_slice.ensures.value in
    let p = err_from_is_err_and c.from_residual-in_err-found.result c.from_residual-in_err-found.ensures.1 in
    rw (p.1, p.2) (core_told tables (core_tree c.args.core.now) _ _ (ap scope_of c.as_slice-5.ensures.value ∙ own) c.in_err-found.ensures)

pub returns : goal.returns
returns c =
    let tables = map table_shape c.args.tables.now in
    let k = core_tree c.args.core.now in
    let own = c.in_ok-scope.ensures.0 ∙ ap (λ (chains : List Chain). from_scope tables (map chain_tree chains)) c.as_slice.ensures.value in
    let seen = ap scope_of c.as_slice-2.ensures.value ∙ own in
    let again = ap scope_of c.as_slice-5.ensures.value ∙ ap scope_of (sym c.as_slice-2.ensures.value) in
    let written = ap (map item_tree) c.as_slice-3.ensures.value in
    let shown = shown_same tables k _ _ _ seen written c.in_ok-outputs.ensures.0 in
    let items : map tree c.in_ok-columns.columns.items.items ≡ output_values _ = c.in_ok-columns.ensures.items ∙ ap output_values shown in
    let keys = c.in_ok-keys.ensures.0 ∙ ap (λ es. keys_sorting (sorting_form c.args.sorting.now) (map tree es)) c.as_slice-4.ensures.value in
    completed_is tables (sorting_form c.args.sorting.now) c.args.number k _ _ _ _ c.in_ok-found.found seen written c.in_ok-outputs.ensures.1 items keys (rw again at c.in_ok-found.ensures)
