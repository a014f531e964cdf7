use Rattle.std.proofs.Common.{◌≡◌, ◌+◌, ◌<◌, ◌++◌, [], ◌∷◌, ◌∙◌, length, map, drop, ap, arith}
use Rattle.std.proofs.lemmas.List.{map-append}
use Rattle.std.proofs.lemmas.Result.{err_from_is_err_and}
use Rattle.med_syntax.specs.QueryView.{join_tree}
use Rattle.bind_names.specs.Prelude.{TableShape, Scope, scope_of, visible, table_shape, entry_shape, with_join}
use Rattle.bind_types.specs.Typing.{on_type_causes, joins_type_causes}
use Rattle.bind_names.proofs.Causes.{tells_first, tells_same}
use Rattle.bind_names.proofs.Parts.{drop_read}
use Rattle.bind_types.proofs.checks.check_joins.Goals as goal

pub returns-in_err-check_join : goal.returns-in_err-check_join
returns-in_err-check_join c =
    let tables = map table_shape c.args.tables.now in
    let s = scope_of c.loop-join.seen.items in
    let x = join_tree c.join-item.result in
    let rest = map join_tree (drop (c.loop-join.join-index + 1) c.args.joins.now) in
    let lt : c.loop-join.join-index < length c.args.joins.now = omega arith in
    let at = drop_read c.args.joins.now c.loop-join.join-index c.join-item.result lt c.join-item.is in
    let grown : scope_of c.as_slice.result.now ≡ with_join tables s x =
    ap scope_of (c.as_slice.ensures.value ∙ c.in_ok-push-2.ensures.items) ∙ map-append visible c.loop-join.seen.items (c.visible_of.result ∷ [])
    ∙ ap (λ (v : TableShape). s ++ (v ∷ [])) (c.visible_of.ensures ∙ ap (entry_shape tables) c.joined_entry.ensures) in
    let p = err_from_is_err_and c.from_residual-in_err-check_join.result c.from_residual-in_err-check_join.ensures.1 in
    rw (p.1, p.2) (tells_first _ (on_type_causes (with_join tables s x) x) (joins_type_causes tables (with_join tables s x) rest) _
    (c.loop-join.invariant ∙ ap (λ xs. joins_type_causes tables s (map join_tree xs)) at)
    (tells_same _ _ _ (ap (λ (z : Scope). on_type_causes z x) grown) c.in_err-check_join.ensures))
