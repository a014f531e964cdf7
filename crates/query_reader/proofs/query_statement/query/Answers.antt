use Rattle.std.proofs.Common.{map, refl}
use Rattle.std.specs.Prelude.{option_map}
use Rattle.std.proofs.lemmas.Result.{err_from_is_err_and}
use Rattle.med_syntax.specs.Prelude.{terminals_of, core_tree, key_tree, limit_tree}
use Rattle.query_reader.specs.QueryReading.{query_of}
use Rattle.query_reader.proofs.QuerySteps.{seq_goes, seq_reads, seq_fails}
use Rattle.query_reader.proofs.query_statement.query.Goals as goal

pub returns-in_err-core : goal.returns-in_err-core
unfolding query_of
returns-in_err-core c =
    let p = err_from_is_err_and c.from_residual.result c.from_residual.ensures.1 in
    (seq_fails _ _ _ _ c.in_err-core.field-0.0 _ c.in_err-core.ensures (cc))

pub returns-in_err-others : goal.returns-in_err-others
unfolding query_of
returns-in_err-others c =
    let p = err_from_is_err_and c.from_residual-in_err-others.result c.from_residual-in_err-others.ensures.1 in
    (seq_goes _ _ _ _ (core_tree c.in_ok-core.core) (terminals_of c.in_ok-core.rest.now) _ c.in_ok-core.ensures
    (seq_fails _ _ _ _ c.in_err-others.field-0.0 _ c.in_err-others.ensures (cc)))

pub returns-in_err-keys : goal.returns-in_err-keys
unfolding query_of
returns-in_err-keys c =
    let p = err_from_is_err_and c.from_residual-in_err-keys.result c.from_residual-in_err-keys.ensures.1 in
    (seq_goes _ _ _ _ (core_tree c.in_ok-core.core) (terminals_of c.in_ok-core.rest.now) _ c.in_ok-core.ensures
    (seq_goes _ _ _ _ (map core_tree c.in_ok-others.others.items) (terminals_of c.in_ok-others.rest.now) _ c.in_ok-others.ensures
    (seq_fails _ _ _ _ c.in_err-keys.field-0.0 _ c.in_err-keys.ensures (cc))))

pub returns-in_err-limit : goal.returns-in_err-limit
unfolding query_of
returns-in_err-limit c =
    let p = err_from_is_err_and c.from_residual-in_err-limit.result c.from_residual-in_err-limit.ensures.1 in
    (seq_goes _ _ _ _ (core_tree c.in_ok-core.core) (terminals_of c.in_ok-core.rest.now) _ c.in_ok-core.ensures
    (seq_goes _ _ _ _ (map core_tree c.in_ok-others.others.items) (terminals_of c.in_ok-others.rest.now) _ c.in_ok-others.ensures
    (seq_goes _ _ _ _ (map key_tree c.in_ok-keys.keys.items) (terminals_of c.in_ok-keys.rest.now) _ c.in_ok-keys.ensures
    (seq_fails _ _ _ _ c.in_err-limit.field-0.0 _ c.in_err-limit.ensures (cc)))))

pub returns : goal.returns
unfolding query_of
returns c =
    (seq_reads _ _ _ (core_tree c.in_ok-core.core) (terminals_of c.in_ok-core.rest.now) _ c.in_ok-core.ensures
    (seq_reads _ _ _ (map core_tree c.in_ok-others.others.items) (terminals_of c.in_ok-others.rest.now) _ c.in_ok-others.ensures
    (seq_reads _ _ _ (map key_tree c.in_ok-keys.keys.items) (terminals_of c.in_ok-keys.rest.now) _ c.in_ok-keys.ensures
    (seq_reads _ _ _ ((option_map limit_tree c.in_ok-limit.limit, c.in_ok-limit.offset)) (terminals_of c.in_ok-limit.rest.now) _ c.in_ok-limit.ensures
    refl))))
