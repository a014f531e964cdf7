use Rattle.std.proofs.Common.{◌++◌, map, flat_map, ap}
use Rattle.std.proofs.lemmas.Result.{err_from_is_err_and}
use Rattle.med_syntax.specs.QueryView.{core_tree, select_tree}
use Rattle.bind_names.specs.Scope.{table_shape}
use Rattle.bind_types.specs.Typing.{core_written_causes, order_type_causes}
use Rattle.bind_names.proofs.Causes.{tells_left, tells_right, tells_same}
use Rattle.bind_types.proofs.checks.check_written.Goals as goal

pub returns-in_err-check_core : goal.returns-in_err-check_core
returns-in_err-check_core c =
    let tables = map table_shape c.args.tables.now in
    let q = select_tree c.args.select.now in
    let p = err_from_is_err_and c.from_residual.result c.from_residual.ensures.1 in
    rw (p.1, p.2) (tells_left _ (order_type_causes tables q) _ (tells_left (core_written_causes tables q.core) (flat_map (core_written_causes tables) q.others) _ c.in_err-check_core.ensures))

pub returns-in_err-check_cores : goal.returns-in_err-check_cores
returns-in_err-check_cores c =
    let tables = map table_shape c.args.tables.now in
    let q = select_tree c.args.select.now in
    let f = core_written_causes tables in
    let p = err_from_is_err_and c.from_residual-in_err-check_cores.result c.from_residual-in_err-check_cores.ensures.1 in
    rw (p.1, p.2) (tells_left _ (order_type_causes tables q) _ (tells_right (f q.core) (flat_map f q.others) _
    (tells_same _ _ _ (ap (λ xs. flat_map f (map core_tree xs)) c.as_slice.ensures.value) c.in_err-check_cores.ensures)))
