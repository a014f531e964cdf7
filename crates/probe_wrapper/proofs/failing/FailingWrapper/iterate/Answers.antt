use Rattle.probe_wrapper.proofs.CountingLemmas.{if_ok, if_err}
use Rattle.probe_wrapper.proofs.FailingCalls.{open_inside, gives_after, breaks_after}
use Rattle.probe_wrapper.proofs.failing.FailingWrapper.iterate.Goals as goal

pub iterate-requires : goal.iterate-requires
iterate-requires g c = open_inside c.args.self.now.failure (g.W.Wrapper.meaning c.args.self.now.inner) _ c.requires

pub returns-clause-ok : goal.returns-clause-ok
returns-clause-ok g c = if_ok _ _ c.iterate.result (λ row r. gives_after c.args.self.now.failure c.counts.new.self (g.W.Wrapper.meaning c.args.self.now.inner) (g.W.Wrapper.meaning c.iterate.new.self) _ row c.counts.ensures.counted c.requires r) c.iterate.ensures.ok

pub returns-clause-err : goal.returns-clause-err
returns-clause-err g c = if_err _ _ c.iterate.result (λ x r. breaks_after c.args.self.now.failure c.counts.new.self (g.W.Wrapper.meaning c.args.self.now.inner) (g.W.Wrapper.meaning c.iterate.new.self) _ x c.counts.ensures.counted c.requires r) c.iterate.ensures.err
