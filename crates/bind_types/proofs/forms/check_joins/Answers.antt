use Rattle.std.proofs.Common.{◌<◌, ◌∙◌, length, map, flat_map, ap, arith}
use Rattle.std.proofs.lemmas.Result.{err_from_is_err_and}
use Rattle.med_query.specs.Form.{join_form}
use Rattle.bind_types.specs.Typing.{join_causes}
use Rattle.bind_names.proofs.Causes.{tells_first}
use Rattle.bind_names.proofs.Parts.{drop_read}
use Rattle.bind_types.proofs.forms.check_joins.Goals as goal

pub returns-in_err-check_join : goal.returns-in_err-check_join
returns-in_err-check_join c =
    let lt : c.loop-join.join-index < length c.args.joins.now = omega arith in
    let at = drop_read c.args.joins.now c.loop-join.join-index c.join-item.result lt c.join-item.is in
    let p = err_from_is_err_and c.from_residual.result c.from_residual.ensures.1 in
    rw (p.1, p.2) (tells_first _ (join_causes (join_form c.join-item.result)) _ _ (c.loop-join.invariant ∙ ap (λ xs. flat_map join_causes (map join_form xs)) at) c.in_err-check_join.ensures)
