use Rattle.std.proofs.Common.{◌<◌, ◌∙◌, length, map, flat_map, ap, arith}
use Rattle.std.proofs.lemmas.Result.{err_from_is_err_and}
use Rattle.med_syntax.specs.QueryView.{core_tree}
use Rattle.bind_names.specs.Naming.{core_alias_causes}
use Rattle.bind_names.proofs.Causes.{tells_first}
use Rattle.bind_names.proofs.Parts.{drop_read}
use Rattle.med_binder.proofs.look_up.check_each_names.Goals as goal

pub returns-in_err-check_core_names : goal.returns-in_err-check_core_names
returns-in_err-check_core_names c =
    let lt : c.loop-core.core-index < length c.args.cores.now = omega arith in
    let at = drop_read c.args.cores.now c.loop-core.core-index c.core-item.result lt c.core-item.is in
    let p = err_from_is_err_and c.from_residual.result c.from_residual.ensures.1 in
    rw (p.1, p.2) (tells_first _ (core_alias_causes (core_tree c.core-item.result)) _ _ (c.loop-core.invariant ∙ ap (λ xs. flat_map core_alias_causes (map core_tree xs)) at) c.in_err-check_core_names.ensures)
