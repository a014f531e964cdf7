use Rattle.probe_wrapper.proofs.CountingLemmas.{if_err, refuses_change}
use Rattle.probe_wrapper.proofs.counting.CountingWrapper.insert.Goals as goal

pub returns-clause-err : goal.returns-clause-err
returns-clause-err g c = if_err _ _ c.insert.result (λ f r. refuses_change c.args.self.now.pulled (g.W.Wrapper.meaning c.args.self.now.inner) (g.W.Wrapper.meaning c.insert.new.self) _ f r) c.insert.ensures.err
