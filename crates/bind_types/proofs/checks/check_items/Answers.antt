use Rattle.std.proofs.Common.{◌<◌, ◌∙◌, length, map, flat_map, ap, arith}
use Rattle.std.proofs.lemmas.Result.{err_from_is_err_and}
use Rattle.med_syntax.specs.QueryView.{item_tree}
use Rattle.bind_names.specs.Scope.{scope_of}
use Rattle.bind_types.specs.Typing.{item_type_causes}
use Rattle.bind_names.proofs.Causes.{tells_first}
use Rattle.bind_names.proofs.Parts.{drop_read}
use Rattle.bind_types.proofs.checks.check_items.Goals as goal

pub returns-in_err-check_item : goal.returns-in_err-check_item
returns-in_err-check_item c =
    let f = item_type_causes (scope_of c.args.scope.now) in
    let lt : c.loop-item.item-index < length c.args.items.now = omega arith in
    let at = drop_read c.args.items.now c.loop-item.item-index c.item-item.result lt c.item-item.is in
    let p = err_from_is_err_and c.from_residual.result c.from_residual.ensures.1 in
    rw (p.1, p.2) (tells_first _ (f (item_tree c.item-item.result)) _ _ (c.loop-item.invariant ∙ ap (λ xs. flat_map f (map item_tree xs)) at) c.in_err-check_item.ensures)
