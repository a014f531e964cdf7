use Rattle.std.proofs.Common.{◌<◌, ◌∙◌, length, map, flat_map, ap, arith}
use Rattle.std.proofs.lemmas.Result.{err_from_is_err_and}
use Rattle.med_syntax.specs.QueryView.{core_tree}
use Rattle.bind_names.specs.Scope.{table_shape}
use Rattle.bind_types.specs.Typing.{core_written_causes}
use Rattle.bind_names.proofs.Causes.{tells_first}
use Rattle.bind_names.proofs.Parts.{drop_read}
use Rattle.bind_types.proofs.checks.check_cores.Goals as goal

pub returns-in_err-check_core : goal.returns-in_err-check_core
returns-in_err-check_core c =
    let f = core_written_causes (map table_shape c.args.tables.now) in
    let lt : c.loop-core.core-index < length c.args.cores.now = omega arith in
    let at = drop_read c.args.cores.now c.loop-core.core-index c.core-item.result lt c.core-item.is in
    let p = err_from_is_err_and c.from_residual.result c.from_residual.ensures.1 in
    rw (p.1, p.2) (tells_first _ (f (core_tree c.core-item.result)) _ _ (c.loop-core.invariant ∙ ap (λ xs. flat_map f (map core_tree xs)) at) c.in_err-check_core.ensures)
