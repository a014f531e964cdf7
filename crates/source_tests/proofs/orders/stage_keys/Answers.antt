use Rattle.std.proofs.Common.{◌≡◌, ◌∙◌, ◌∷◌, [], ap, true}
use Rattle.med_value.specs.declared.value.ColType.TheVariants.{Int}
use Rattle.med_value.specs.Datum.{Tuple, tuple}
use Rattle.fdw_api.specs.Prelude.{Inserts, row_of_change_fits}
use Rattle.source_tests.proofs.Writing.{writing_can_insert, staged_is_writing}
use Rattle.source_tests.proofs.orders.stage_keys.Goals as goal

pub insert-requires : goal.insert-requires
insert-requires g c =
    let fits : row_of_change_fits (Int ∷ Int ∷ Int ∷ []) (Inserts (tuple c.in_ok-row.row)) ≡ true =
    ap (λ (r : Tuple). row_of_change_fits (Int ∷ Int ∷ Int ∷ []) (Inserts r)) c.in_ok-row.ensures in
    writing_can_insert (g.W.Wrapper.meaning c.loop-key.source) c.args.table.number _ _ fits c.loop-key.invariant.writing

pub loop-key-preserved : goal.loop-key-preserved
loop-key-preserved g c =
    record {
      writing = staged_is_writing (g.W.Wrapper.meaning c.loop-key.source) (g.W.Wrapper.meaning c.insert.new.self) c.args.table.number _ _
          c.in_ok-insert.ensures.ok c.loop-key.invariant.writing;
      bound = ap (λ z. z.tables c.args.table.number) c.in_ok-insert.ensures.ok.ledger ∙ c.loop-key.invariant.bound;
    }
