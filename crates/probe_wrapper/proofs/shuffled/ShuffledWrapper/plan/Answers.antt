use Rattle.probe_wrapper.specs.Shuffled.{turns_of}
use Rattle.probe_wrapper.proofs.CountingLemmas.{if_ok}
use Rattle.probe_wrapper.proofs.ShuffledCalls.{allows}
use Rattle.probe_wrapper.proofs.shuffled.ShuffledWrapper.plan.Goals as goal

pub returns-clause-ok : goal.returns-clause-ok
returns-clause-ok g c = if_ok _ _ c.plan.result (λ a p. allows (g.W.Wrapper.meaning c.args.self.now.inner) (turns_of c.args.self.now.scans) c.args.self.now.pulled _ _ p) c.plan.ensures.ok
