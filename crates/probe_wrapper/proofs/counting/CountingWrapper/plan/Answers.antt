use Rattle.probe_wrapper.proofs.CountingLemmas.{if_ok, allows}
use Rattle.probe_wrapper.proofs.counting.CountingWrapper.plan.Goals as goal

pub returns-clause-ok : goal.returns-clause-ok
returns-clause-ok g c = if_ok _ _ c.plan.result (λ a p. allows c.args.self.now.pulled (g.W.Wrapper.meaning c.args.self.now.inner) _ _ p) c.plan.ensures.ok
