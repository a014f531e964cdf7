use Rattle.std.proofs.Common.{◌≡◌, ◌∷◌, [], ap, true}
use Rattle.med_value.specs.declared.value.ColType.TheVariants.{Int}
use Rattle.med_value.specs.Datum.{Tuple, tuple}
use Rattle.fdw_api.specs.Prelude.{Inserts, row_of_change_fits}
use Rattle.wrapper_tests.proofs.CallLemmas.{opened_can_insert, staged_can_close, written_has_table, on_ok}
use Rattle.wrapper_tests.proofs.orders.insert_order.Goals as goal

pub insert-requires : goal.insert-requires
insert-requires g c =
    let fits : row_of_change_fits (Int ∷ Int ∷ Int ∷ []) (Inserts (tuple c.in_ok-row.row)) ≡ true = ap (λ (r : Tuple). row_of_change_fits (Int ∷ Int ∷ Int ∷ []) (Inserts r)) c.in_ok-row.ensures in
    opened_can_insert (g.W.Wrapper.meaning c.args.source.now) _ _ _ _ c.requires.can c.requires.kinds fits c.in_ok-begin_modify.ensures.ok

pub end_modify-requires : goal.end_modify-requires
end_modify-requires g c = staged_can_close (g.W.Wrapper.meaning c.args.source.now) _ _ _ _ c.requires.can c.in_ok-begin_modify.ensures.ok c.in_ok-insert.ensures.ok

pub returns : goal.returns
returns g c = on_ok _ _ c.end_modify.result (λ _ r. written_has_table (g.W.Wrapper.meaning c.args.source.now) _ _ _ _ _ c.requires.can c.in_ok-begin_modify.ensures.ok c.in_ok-insert.ensures.ok r) c.end_modify.ensures.ok
