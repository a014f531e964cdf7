use Rattle.std.proofs.Common.{◌≡◌, List, map, ap, sym, ◌∙◌}
use Rattle.std.proofs.lemmas.Result.{err_from_is_err_and}
use Rattle.med_syntax.specs.QueryView.{item_tree, select_tree}
use Rattle.tri_expr.specs.Tree.{tree}
use Rattle.bind_names.specs.Prelude.{Output, Sorting, sorting_of, output_values, keys_sorting, table_shape, scope_of}
use Rattle.bind_query.specs.Resolving.{sorting_form}
use Rattle.bind_query.specs.Shown.{output_of}
use Rattle.med_binder.proofs.CoreSteps.{shown_same, head_items, head_order, order_clear, sorting_same, completed_is, first_told}
use Rattle.med_binder.proofs.cores.first_core.Goals as goal

pub returns-in_err-outputs : goal.returns-in_err-outputs
returns-in_err-outputs c =
    let p = err_from_is_err_and c.from_residual.result c.from_residual.ensures.1 in
    rw (p.1, p.2) (head_items (map table_shape c.args.tables.now) (select_tree c.args.select.now) _ _ _ c.requires (ap (map item_tree) c.as_slice.ensures.value) c.in_err-outputs.ensures)

pub returns-in_err-sorting : goal.returns-in_err-sorting
returns-in_err-sorting c =
    let tables = map table_shape c.args.tables.now in
    let q = select_tree c.args.select.now in
    let outs = ap (map output_of) c.as_slice-2.ensures.value ∙ shown_same tables q.core _ _ _ c.requires (ap (map item_tree) c.as_slice.ensures.value) c.in_ok-outputs.ensures.0 in
    let p = err_from_is_err_and c.from_residual-in_err-sorting.result c.from_residual-in_err-sorting.ensures.1 in
    rw (p.1, p.2) (head_order tables q _ _ _ c.requires outs c.in_err-sorting.ensures)

pub returns-in_err-found : goal.returns-in_err-found
returns-in_err-found c =
    let p = err_from_is_err_and c.from_residual-in_err-found.result c.from_residual-in_err-found.ensures.1 in
    rw (p.1, p.2) (first_told (map table_shape c.args.tables.now) (select_tree c.args.select.now) _ _ c.requires c.in_err-found.ensures)

pub returns : goal.returns
returns c =
    let tables = map table_shape c.args.tables.now in
    let q = select_tree c.args.select.now in
    let written = ap (map item_tree) c.as_slice.ensures.value in
    let shown = shown_same tables q.core _ _ _ c.requires written c.in_ok-outputs.ensures.0 in
    let outs = ap (map output_of) c.as_slice-2.ensures.value ∙ shown in
    let sorting : sorting_form c.in_ok-sorting.sorting ≡ sorting_of tables q = c.in_ok-sorting.ensures.0 ∙ sorting_same tables q _ _ c.requires outs in
    let columns = c.in_ok-columns.ensures in
    let items : map tree c.in_ok-columns.columns.items.items ≡ output_values _ = columns.items ∙ ap output_values shown in
    let by = c.in_ok-by.ensures in
    let keys = by.keys ∙ ap (λ (s : Sorting). keys_sorting s (map tree c.as_slice-3.result.now)) sorting ∙ ap (λ es. keys_sorting (sorting_of tables q) (map tree es)) c.as_slice-3.ensures.value in
    record {
      names = columns.names ∙ ap (λ (os : List Output). map (λ (o : Output). o.name) os) shown;
      found = completed_is tables (sorting_of tables q) 0 q.core (scope_of c.args.scope.now) _ _ _ c.in_ok-found.found c.requires written c.in_ok-outputs.ensures.1 items keys c.in_ok-found.ensures;
      sorting = rw (sym sorting) by.others;
      clear = order_clear tables q _ _ c.requires outs c.in_ok-sorting.ensures.1;
    }
