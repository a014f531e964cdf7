use Rattle.probe_wrapper.proofs.FailingLemmas.{can_change}
use Rattle.probe_wrapper.proofs.CountingLemmas.{if_ok, if_err}
use Rattle.probe_wrapper.proofs.FailingCalls.{stages_after, refuses_change_after}
use Rattle.probe_wrapper.proofs.failing.FailingWrapper.insert.Goals as goal

pub insert-requires : goal.insert-requires
insert-requires g c = (can_change c.args.self.now.failure (g.W.Wrapper.meaning c.args.self.now.inner) _ c.requires).0

pub returns-clause-ok : goal.returns-clause-ok
returns-clause-ok g c = if_ok _ _ c.insert.result (λ _ r. stages_after c.args.self.now.failure c.counts.new.self (g.W.Wrapper.meaning c.args.self.now.inner) (g.W.Wrapper.meaning c.insert.new.self) _ c.counts.ensures.counted c.requires r) c.insert.ensures.ok

pub returns-clause-err : goal.returns-clause-err
returns-clause-err g c = if_err _ _ c.insert.result (λ x r. refuses_change_after c.args.self.now.failure c.counts.new.self (g.W.Wrapper.meaning c.args.self.now.inner) (g.W.Wrapper.meaning c.insert.new.self) _ x c.counts.ensures.counted c.requires r) c.insert.ensures.err
