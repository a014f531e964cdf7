use Rattle.std.proofs.Common.{List, map, flat_map, ap, sym, subst, ◌∙◌, length}
use Rattle.std.proofs.lemmas.Bool.{eqb-true, eqb-false}
use Rattle.med_syntax.specs.declared.statement.OrderKey.{OrderKey}
use Rattle.med_syntax.specs.QueryView.{key_tree, select_tree}
use Rattle.bind_names.specs.Prelude.{key_meant, key_place, by_keys, by_places, key_name_causes, place_name_causes, scope_of, Means}
use Rattle.bind_query.specs.Resolving.{sorting_form}
use Rattle.bind_query.specs.Shown.{output_of}
use Rattle.bind_query.proofs.KeySteps.{sorts_alone, sorts_several}
use Rattle.bind_query.proofs.sorting.sorting_for.Goals as goal

pub returns-then-is_empty : goal.returns-then-is_empty
returns-then-is_empty c =
    let s = scope_of c.args.scope.now in
    let outs = map output_of c.args.outputs.now in
    let q = select_tree c.args.select.now in
    sorts_alone s outs c.args.select.now _ (sym (ap length c.as_slice.ensures.value) ∙ eqb-true (length c.as_slice.result.now) 0 (sym c.if-is_empty.ensures))
    (subst (λ (ks : List OrderKey). Means sorting_form (flat_map (key_name_causes s q.core.distinct outs) (map key_tree ks)) (by_keys (map (key_meant s outs) (map key_tree ks))) c.by_keys.result) c.as_slice-written.ensures.value c.by_keys.ensures)

pub returns-else-is_empty : goal.returns-else-is_empty
returns-else-is_empty c =
    let s = scope_of c.args.scope.now in
    let outs = map output_of c.args.outputs.now in
    sorts_several s outs c.args.select.now _ (λ e. eqb-false (length c.as_slice.result.now) 0 (sym c.if-is_empty.ensures) (ap length c.as_slice.ensures.value ∙ e))
    (subst (λ (ks : List OrderKey). Means sorting_form (flat_map (place_name_causes outs) (map key_tree ks)) (by_places (map (key_place outs) (map key_tree ks))) c.by_places.result) c.as_slice-written.ensures.value c.by_places.ensures)
