use Rattle.std.proofs.Common.{◌≡◌, List, map, ap, subst, ◌∙◌}
use Rattle.med_value.specs.declared.cause.Cause.{Cause}
use Rattle.med_syntax.specs.declared.statement.Chain.{Chain}
use Rattle.med_syntax.specs.QueryView.{chain_tree, core_tree}
use Rattle.bind_names.specs.Prelude.{Scope, scope_of, table_shape, from_scope, Passes}
use Rattle.bind_types.specs.Kinds.{asked_type_causes}
use Rattle.bind_types.proofs.KeyTypes.{written_is}
use Rattle.bind_types.proofs.checks.check_core.Goals as goal

pub returns : goal.returns
returns c =
    let tables = map table_shape c.args.tables.now in
    let q = core_tree c.args.core.now in
    let none = rw c.as_slice.ensures.value at c.in_ok-check_from.ensures in
    let seen : scope_of c.as_slice-3.result.now ≡ from_scope tables q.from =
    ap scope_of c.as_slice-3.ensures.value ∙ c.in_ok-seen.ensures.0 ∙ ap (λ (chains : List Chain). from_scope tables (map chain_tree chains)) c.as_slice-2.ensures.value in
    subst (λ (xs : List Cause). Passes xs c.check_asked.result) (ap (λ (s : Scope). asked_type_causes s q) seen ∙ written_is tables q none) c.check_asked.ensures
