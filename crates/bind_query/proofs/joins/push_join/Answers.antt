use Rattle.std.proofs.Common.{◌≡◌, ◌++◌, [], ◌∷◌, suc, map, length, ap, sym, ◌∙◌}
use Rattle.std.proofs.lemmas.List.{map-append}
use Rattle.med_syntax.specs.QueryView.{join_tree}
use Rattle.med_query.specs.Form.{join_form}
use Rattle.bind_names.specs.Prelude.{scope_of, visible, table_shape, entry_shape, joined_entry, on_name_causes, with_join, join_meant}
use Rattle.bind_query.proofs.JoinSteps.{one_suc, brought, width_of}
use Rattle.bind_query.proofs.joins.push_join.Goals as goal

pub returns : goal.returns
returns c =
    let tables = map table_shape c.args.tables.now in
    let j = join_tree c.args.written.now in
    let v = c.visible_of-visible.result in
    let s = with_join tables (scope_of c.args.scope.now.items) j in
    let seen : visible v ≡ entry_shape tables (joined_entry j) = c.visible_of-visible.ensures ∙ ap (λ e. entry_shape tables e) c.joined_entry.ensures in
    let after : scope_of c.push.new.self.items ≡ s = brought c.args.scope.now.items c.push.new.self.items v (entry_shape tables (joined_entry j)) c.in_ok-push.ensures.items seen in
    let same : scope_of c.as_slice.result.now ≡ s = ap (λ xs. scope_of xs) c.as_slice.ensures.value ∙ after in
    let wide = width_of v tables (joined_entry j) seen in
    let sum = c.in-Some.ensures {u = tt} in
    let one : c.in-Some.table ≡ suc c.args.last = one_suc _ _ sum.1 in
    let grown = ap (λ xs. map join_form xs) c.in_ok-push-2.ensures.items ∙ map-append join_form c.args.out.now.items (c.in_ok-joined.joined ∷ []) in (
      one,
      after,
      grown ∙ ap (λ x. map join_form c.args.out.now.items ++ x ∷ []) (c.in_ok-joined.ensures.0 ∙ ap (λ k. join_meant k c.in-Some.table (length v.columns.now) j) same
          ∙ ap (λ k. join_meant s k (length v.columns.now) j) one ∙ ap (λ k. join_meant s (suc c.args.last) k j) wide),
      ap (λ k. on_name_causes k j) (sym same) ∙ c.in_ok-joined.ensures.1,
    )
