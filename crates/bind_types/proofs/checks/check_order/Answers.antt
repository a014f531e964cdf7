use Rattle.std.proofs.Common.{◌≡◌, List, map, flat_map, ap, sym, subst, ◌∙◌}
use Rattle.med_value.specs.declared.cause.Cause.{Cause}
use Rattle.med_syntax.specs.declared.statement.Chain.{Chain}
use Rattle.med_syntax.specs.declared.statement.OrderKey.{OrderKey}
use Rattle.med_syntax.specs.QueryView.{chain_tree, key_tree, select_tree}
use Rattle.bind_names.specs.Prelude.{Scope, scope_of, table_shape, from_scope, core_outputs, Passes}
use Rattle.bind_types.specs.Kinds.{written_key_causes}
use Rattle.bind_types.proofs.KeyTypes.{keys_types}
use Rattle.bind_types.proofs.checks.check_order.Goals as goal

pub returns : goal.returns
returns c =
    let tables = map table_shape c.args.tables.now in
    let q = select_tree c.args.select.now in
    let seen : scope_of c.as_slice-2.result.now ≡ from_scope tables q.core.from =
    ap scope_of c.as_slice-2.ensures.value ∙ c.in_ok-seen.ensures.0 ∙ ap (λ (chains : List Chain). from_scope tables (map chain_tree chains)) c.as_slice.ensures.value in
    subst (λ (xs : List Cause). Passes xs c.check_keys.result)
    (ap (λ (s : Scope). flat_map (written_key_causes s) (map key_tree c.as_slice-keys.result.now)) seen
    ∙ ap (λ (ks : List OrderKey). flat_map (written_key_causes (from_scope tables q.core.from)) (map key_tree ks)) c.as_slice-keys.ensures.value
    ∙ sym (keys_types (from_scope tables q.core.from) (core_outputs tables q.core) q.keys))
    c.check_keys.ensures
