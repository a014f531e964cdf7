use Rattle.std.proofs.Common.{map, ap, ◌∙◌}
use Rattle.med_syntax.specs.QueryView.{core_tree}
use Rattle.tri_expr.specs.Tree.{tree}
use Rattle.bind_names.specs.Scope.{table_shape, scope_of, columns_of}
use Rattle.bind_types.specs.TreeTypes.{tree_type, column_kinds}
use Rattle.med_binder.proofs.CoreSteps.{formed}
use Rattle.med_binder.proofs.cores.completed.Goals as goal

pub returns : goal.returns
returns c =
    let items = map tree c.args.items.items in
    let kinds = column_kinds (columns_of (scope_of c.args.scope.now)) in
    record {
      form = c.in_ok-core.ensures ∙ formed (map table_shape c.args.tables.now) (scope_of c.args.scope.now) c.args.number (core_tree c.args.core.now) items (map tree c.args.keys.items) c.in_ok-asked.asked c.in_ok-asked.ensures.0;
      kinds = c.in_ok-kinds.ensures ∙ ap (λ ks. map (tree_type ks) (map tree c.as_slice-2.result.now)) (c.as_slice.ensures.value ∙ c.in_ok-seen.ensures) ∙ ap (λ es. map (tree_type kinds) (map tree es)) c.as_slice-2.ensures.value;
      clear = c.in_ok-asked.ensures.1;
    }
