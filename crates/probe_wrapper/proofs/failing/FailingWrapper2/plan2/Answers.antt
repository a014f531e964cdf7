use Rattle.probe_wrapper.proofs.CountingLemmas.{if_ok}
use Rattle.probe_wrapper.proofs.FailingLemmas.{allows_promise}
use Rattle.probe_wrapper.proofs.failing.FailingWrapper2.plan2.Goals as goal

pub returns-clause-ok : goal.returns-clause-ok
returns-clause-ok g c = if_ok _ _ c.plan2.result (λ a p. allows_promise c.args.self.now.failure (g.W.Wrapper.meaning c.args.self.now.inner) _ _ p) c.plan2.ensures.ok
