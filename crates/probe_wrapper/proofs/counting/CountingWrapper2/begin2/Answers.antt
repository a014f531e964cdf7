use Rattle.probe_wrapper.proofs.CountingLemmas.{if_ok, begins}
use Rattle.probe_wrapper.proofs.counting.CountingWrapper2.begin2.Goals as goal

pub returns-clause-ok : goal.returns-clause-ok
returns-clause-ok g c = if_ok _ _ c.begin2.result (λ t b. begins c.args.self.now.pulled (g.W.Wrapper.meaning c.args.self.now.inner) (g.W.Wrapper.meaning c.begin2.new.self) _ _ _ _ b) c.begin2.ensures.ok
