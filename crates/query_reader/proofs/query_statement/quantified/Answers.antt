use Rattle.std.proofs.Common.{map, refl}
use Rattle.std.specs.Prelude.{option_map}
use Rattle.std.proofs.lemmas.Result.{err_from_is_err_and}
use Rattle.med_syntax.specs.Prelude.{expr_tree, terminals_of, item_tree, chain_tree, group_tree}
use Rattle.query_reader.specs.QueryReading.{quantified_of}
use Rattle.query_reader.proofs.QuerySteps.{seq_goes, seq_reads, seq_fails}
use Rattle.query_reader.proofs.query_statement.quantified.Goals as goal

pub returns-in_err-items : goal.returns-in_err-items
unfolding quantified_of
returns-in_err-items c =
    let p = err_from_is_err_and c.from_residual.result c.from_residual.ensures.1 in
    (seq_fails _ _ _ _ c.in_err-items.field-0.0 _ c.in_err-items.ensures (cc))

pub returns-in_err-from : goal.returns-in_err-from
unfolding quantified_of
returns-in_err-from c =
    let p = err_from_is_err_and c.from_residual-in_err-from.result c.from_residual-in_err-from.ensures.1 in
    (seq_goes _ _ _ _ (map item_tree c.in_ok-items.items.items) (terminals_of c.in_ok-items.rest.now) _ c.in_ok-items.ensures
    (seq_fails _ _ _ _ c.in_err-from.field-0.0 _ c.in_err-from.ensures (cc)))

pub returns-in_err-condition : goal.returns-in_err-condition
unfolding quantified_of
returns-in_err-condition c =
    let p = err_from_is_err_and c.from_residual-in_err-condition.result c.from_residual-in_err-condition.ensures.1 in
    (seq_goes _ _ _ _ (map item_tree c.in_ok-items.items.items) (terminals_of c.in_ok-items.rest.now) _ c.in_ok-items.ensures
    (seq_goes _ _ _ _ (map chain_tree c.in_ok-from.from.items) (terminals_of c.in_ok-from.rest.now) _ c.in_ok-from.ensures
    (seq_fails _ _ _ _ c.in_err-condition.field-0.0 _ c.in_err-condition.ensures (cc))))

pub returns-in_err-groups : goal.returns-in_err-groups
unfolding quantified_of
returns-in_err-groups c =
    let p = err_from_is_err_and c.from_residual-in_err-groups.result c.from_residual-in_err-groups.ensures.1 in
    (seq_goes _ _ _ _ (map item_tree c.in_ok-items.items.items) (terminals_of c.in_ok-items.rest.now) _ c.in_ok-items.ensures
    (seq_goes _ _ _ _ (map chain_tree c.in_ok-from.from.items) (terminals_of c.in_ok-from.rest.now) _ c.in_ok-from.ensures
    (seq_goes _ _ _ _ (option_map expr_tree c.in_ok-condition.condition) (terminals_of c.in_ok-condition.rest.now) _ c.in_ok-condition.ensures
    (seq_fails _ _ _ _ c.in_err-groups.field-0.0 _ c.in_err-groups.ensures (cc)))))

pub returns-in_err-having : goal.returns-in_err-having
unfolding quantified_of
returns-in_err-having c =
    let p = err_from_is_err_and c.from_residual-in_err-having.result c.from_residual-in_err-having.ensures.1 in
    (seq_goes _ _ _ _ (map item_tree c.in_ok-items.items.items) (terminals_of c.in_ok-items.rest.now) _ c.in_ok-items.ensures
    (seq_goes _ _ _ _ (map chain_tree c.in_ok-from.from.items) (terminals_of c.in_ok-from.rest.now) _ c.in_ok-from.ensures
    (seq_goes _ _ _ _ (option_map expr_tree c.in_ok-condition.condition) (terminals_of c.in_ok-condition.rest.now) _ c.in_ok-condition.ensures
    (seq_goes _ _ _ _ (map group_tree c.in_ok-groups.groups.items) (terminals_of c.in_ok-groups.rest.now) _ c.in_ok-groups.ensures
    (seq_fails _ _ _ _ c.in_err-having.field-0.0 _ c.in_err-having.ensures (cc))))))

pub returns : goal.returns
unfolding quantified_of
returns c =
    (seq_reads _ _ _ (map item_tree c.in_ok-items.items.items) (terminals_of c.in_ok-items.rest.now) _ c.in_ok-items.ensures
    (seq_reads _ _ _ (map chain_tree c.in_ok-from.from.items) (terminals_of c.in_ok-from.rest.now) _ c.in_ok-from.ensures
    (seq_reads _ _ _ (option_map expr_tree c.in_ok-condition.condition) (terminals_of c.in_ok-condition.rest.now) _ c.in_ok-condition.ensures
    (seq_reads _ _ _ (map group_tree c.in_ok-groups.groups.items) (terminals_of c.in_ok-groups.rest.now) _ c.in_ok-groups.ensures
    (seq_reads _ _ _ (option_map expr_tree c.in_ok-having.having) (terminals_of c.in_ok-having.rest.now) _ c.in_ok-having.ensures
    refl)))))
