use Rattle.std.proofs.Common.{List, map, ap, subst, ◌∙◌}
use Rattle.med_value.specs.declared.cause.Cause.{Cause}
use Rattle.med_syntax.specs.declared.statement.Chain.{Chain}
use Rattle.med_syntax.specs.QueryView.{chain_tree, core_tree}
use Rattle.bind_names.specs.Prelude.{table_shape, from_scope, Passes}
use Rattle.med_binder.proofs.LookSteps.{alias_same}
use Rattle.med_binder.proofs.look_up.check_core_names.Goals as goal

pub returns : goal.returns
returns c =
    let tables = map table_shape c.args.tables.now in
    let own = c.in_ok-scope.ensures.0 ∙ ap (λ (chains : List Chain). from_scope tables (map chain_tree chains)) c.as_slice.ensures.value in
    subst (λ (xs : List Cause). Passes xs c.check_names.result) (alias_same tables (core_tree c.args.core.now) _ _ c.as_slice-2.ensures.value own) c.check_names.ensures
