use Rattle.probe_wrapper.specs.Shuffled.{turns_of}
use Rattle.probe_wrapper.proofs.CountingLemmas.{if_ok, if_err}
use Rattle.probe_wrapper.proofs.ShuffledCalls.{binds, refuses_bind}
use Rattle.probe_wrapper.proofs.shuffled.ShuffledWrapper.bind.Goals as goal

pub returns-clause-ok : goal.returns-clause-ok
returns-clause-ok g c = if_ok _ _ c.bind.result (λ t b. binds (turns_of c.args.self.now.scans) c.args.self.now.pulled (g.W.Wrapper.meaning c.args.self.now.inner) (g.W.Wrapper.meaning c.bind.new.self) _ _ _ _ b) c.bind.ensures.ok

pub returns-clause-err : goal.returns-clause-err
returns-clause-err g c = if_err _ _ c.bind.result (λ f r. refuses_bind (turns_of c.args.self.now.scans) c.args.self.now.pulled (g.W.Wrapper.meaning c.args.self.now.inner) (g.W.Wrapper.meaning c.bind.new.self) _ _ _ f r) c.bind.ensures.err
