use Rattle.std.proofs.Common.{◌<◌, ◌∙◌, length, map, flat_map, ap, arith}
use Rattle.std.proofs.lemmas.Result.{err_from_is_err_and}
use Rattle.med_syntax.specs.QueryView.{key_tree}
use Rattle.bind_names.specs.Scope.{scope_of}
use Rattle.bind_types.specs.Kinds.{written_key_causes}
use Rattle.bind_names.proofs.Causes.{tells_first}
use Rattle.bind_names.proofs.Parts.{drop_read}
use Rattle.bind_types.proofs.checks.check_keys.Goals as goal

pub returns-in_err-check_key : goal.returns-in_err-check_key
returns-in_err-check_key c =
    let f = written_key_causes (scope_of c.args.scope.now) in
    let lt : c.loop-key.key-index < length c.args.keys.now = omega arith in
    let at = drop_read c.args.keys.now c.loop-key.key-index c.key-item.result lt c.key-item.is in
    let p = err_from_is_err_and c.from_residual.result c.from_residual.ensures.1 in
    rw (p.1, p.2) (tells_first _ (f (key_tree c.key-item.result)) _ _ (c.loop-key.invariant ∙ ap (λ xs. flat_map f (map key_tree xs)) at) c.in_err-check_key.ensures)
