use Rattle.std.proofs.Common.{map}
use Rattle.std.proofs.lemmas.Result.{err_from_is_err_and}
use Rattle.med_syntax.specs.QueryView.{select_tree}
use Rattle.bind_names.specs.Prelude.{table_shape, select_name_causes}
use Rattle.bind_types.specs.Typing.{select_type_causes}
use Rattle.med_binder.proofs.Binds.{own_entries, types_then}
use Rattle.med_binder.proofs.query_binding.bind_known.Goals as goal

pub returns-in_err-check_types-clause-binds : goal.returns-in_err-check_types-clause-binds
returns-in_err-check_types-clause-binds c =
    let tables = map table_shape c.args.tables.now in
    let q = select_tree c.args.select.now in
    let p = err_from_is_err_and c.from_residual-in_err-check_types.result c.from_residual-in_err-check_types.ensures.1 in
    rw (p.1, p.2) (types_then (select_name_causes tables q) (select_type_causes tables q) _ c.in_ok-bound.ensures.clear
    (c.in_err-check_types.ensures.passes (own_entries tables q _ _ c.in_ok-bound.ensures)))

pub returns-clause-binds : goal.returns-clause-binds
returns-clause-binds c =
    let is = c.in_ok-bound.ensures in
    (is.meant, is.entries, is.clear, c.in_ok-check_types.ensures.passes (own_entries (map table_shape c.args.tables.now) (select_tree c.args.select.now) _ _ is))
