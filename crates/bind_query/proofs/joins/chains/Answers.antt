use Rattle.std.proofs.Common.{◌<◌, [], ◌∷◌, ◌++◌, ◌∙◌, map, flat_map, length, ap, arith}
use Rattle.std.proofs.lemmas.List.{map-append}
use Rattle.std.proofs.lemmas.Result.{err_from_is_err_and}
use Rattle.med_syntax.specs.QueryView.{chain_tree}
use Rattle.med_query.specs.Form.{chain_form}
use Rattle.bind_names.specs.Prelude.{table_shape, chain_name_causes}
use Rattle.bind_names.proofs.Causes.{tells_first, next_causes}
use Rattle.bind_names.proofs.Parts.{drop_read}
use Rattle.bind_query.proofs.JoinSteps.{chains_next}
use Rattle.bind_query.proofs.joins.chains.Goals as goal

pub returns-in_err-chain : goal.returns-in_err-chain
returns-in_err-chain c =
    let f = chain_name_causes (map table_shape c.args.tables.now) in
    let lt : c.loop-written.written-index < length c.args.chains.now = omega arith in
    let at = drop_read c.args.chains.now c.loop-written.written-index c.written-item.result lt c.written-item.is in
    let p = err_from_is_err_and c.from_residual.result c.from_residual.ensures.1 in
    rw (p.1, p.2) (tells_first _ (f (chain_tree c.written-item.result)) _ _ (c.loop-written.invariant.causes ∙ ap (λ xs. flat_map f (map chain_tree xs)) at) c.in_err-chain.ensures)

pub loop-written-preserved : goal.loop-written-preserved
loop-written-preserved c =
    let f = chain_name_causes (map table_shape c.args.tables.now) in
    let lt : c.loop-written.written-index < length c.args.chains.now = omega arith in
    let at = drop_read c.args.chains.now c.loop-written.written-index c.written-item.result lt c.written-item.is in
    let grown = ap (λ xs. map chain_form xs) c.in_ok-push.ensures.items ∙ map-append chain_form c.loop-written.out.items (c.in_ok-chain.chain ∷ [])
    ∙ ap (λ x. map chain_form c.loop-written.out.items ++ x ∷ []) c.in_ok-chain.ensures.0 in
    record {
      causes = next_causes _ (f (chain_tree c.written-item.result)) _ (c.loop-written.invariant.causes ∙ ap (λ xs. flat_map f (map chain_tree xs)) at) c.in_ok-chain.ensures.1;
      chains = chains_next (map table_shape c.args.tables.now) _ _ _ c.loop-written.number _ c.args.chains.now c.loop-written.written-index c.written-item.result c.loop-written.invariant.chains lt c.written-item.is c.in_ok-number.ensures.0 grown;
    }
