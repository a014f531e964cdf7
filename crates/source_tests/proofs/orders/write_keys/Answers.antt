use Rattle.std.proofs.Common.{◌∙◌, ap}
use Rattle.source_tests.proofs.CallLemmas.{on_ok}
use Rattle.source_tests.proofs.Writing.{opened_is_writing, writing_can_close, closed_tables, closed_can_modify}
use Rattle.source_tests.proofs.orders.write_keys.Goals as goal

pub stage_keys-requires : goal.stage_keys-requires
stage_keys-requires g c = opened_is_writing (g.W.Wrapper.meaning c.args.source.now) _ _ _ c.requires.can c.requires.kinds c.in_ok-begin_modify.ensures.ok

pub end_modify-requires : goal.end_modify-requires
end_modify-requires g c = writing_can_close _ _ _ c.in_ok-stage_keys.ensures.writing

pub returns-in_err-begin_modify-clause-bound : goal.returns-in_err-begin_modify-clause-bound
returns-in_err-begin_modify-clause-bound g c = ap (λ z. z.tables c.args.table.number) c.in_err-begin_modify.ensures.err.refuses.ledger

pub returns-in_err-stage_keys-clause-bound : goal.returns-in_err-stage_keys-clause-bound
returns-in_err-stage_keys-clause-bound g c = c.in_err-stage_keys.ensures.bound ∙ ap (λ z. z.tables c.args.table.number) c.in_ok-begin_modify.ensures.ok.ledger

pub returns-clause-bound : goal.returns-clause-bound
returns-clause-bound g c =
    closed_tables (g.W.Wrapper.meaning c.stage_keys.new.source) (g.W.Wrapper.meaning c.end_modify.new.self) c.args.table.number c.end_modify.result c.end_modify.ensures.ok c.end_modify.ensures.err
    ∙ c.in_ok-stage_keys.ensures.bound ∙ ap (λ z. z.tables c.args.table.number) c.in_ok-begin_modify.ensures.ok.ledger

pub returns-clause-can : goal.returns-clause-can
returns-clause-can g c = on_ok _ _ c.end_modify.result (λ _ r. closed_can_modify _ _ _ _ c.in_ok-stage_keys.ensures.writing r) c.end_modify.ensures.ok
