use Rattle.std.proofs.Common.{◌<◌, ◌∙◌, length, map, flat_map, ap, arith}
use Rattle.std.proofs.lemmas.Result.{err_from_is_err_and}
use Rattle.med_query.specs.Form.{chain_form}
use Rattle.bind_types.specs.Typing.{chain_causes}
use Rattle.bind_names.proofs.Causes.{tells_first}
use Rattle.bind_names.proofs.Parts.{drop_read}
use Rattle.bind_types.proofs.forms.check_from.Goals as goal

pub returns-in_err-check_chain : goal.returns-in_err-check_chain
returns-in_err-check_chain c =
    let lt : c.loop-chain.chain-index < length c.args.chains.now = omega arith in
    let at = drop_read c.args.chains.now c.loop-chain.chain-index c.chain-item.result lt c.chain-item.is in
    let p = err_from_is_err_and c.from_residual.result c.from_residual.ensures.1 in
    rw (p.1, p.2) (tells_first _ (chain_causes (chain_form c.chain-item.result)) _ _ (c.loop-chain.invariant ∙ ap (λ xs. flat_map chain_causes (map chain_form xs)) at) c.in_err-check_chain.ensures)
