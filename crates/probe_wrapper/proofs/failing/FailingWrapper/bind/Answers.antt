use Rattle.probe_wrapper.proofs.CountingLemmas.{if_ok, if_err}
use Rattle.probe_wrapper.proofs.FailingCalls.{binds_after, refuses_bind_after}
use Rattle.probe_wrapper.proofs.failing.FailingWrapper.bind.Goals as goal

pub returns-clause-ok : goal.returns-clause-ok
returns-clause-ok g c = if_ok _ _ c.bind.result (λ n b. binds_after c.args.self.now.failure c.counts.new.self (g.W.Wrapper.meaning c.args.self.now.inner) (g.W.Wrapper.meaning c.bind.new.self) _ _ _ n.number c.counts.ensures.counted b) c.bind.ensures.ok

pub returns-clause-err : goal.returns-clause-err
returns-clause-err g c = if_err _ _ c.bind.result (λ x r. refuses_bind_after c.args.self.now.failure c.counts.new.self (g.W.Wrapper.meaning c.args.self.now.inner) (g.W.Wrapper.meaning c.bind.new.self) _ _ _ x c.counts.ensures.counted r) c.bind.ensures.err
