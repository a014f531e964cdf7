use Rattle.probe_wrapper.proofs.FailingLemmas.{live_in}
use Rattle.probe_wrapper.proofs.FailingCalls.{ends_after}
use Rattle.probe_wrapper.proofs.failing.FailingWrapper.end.Goals as goal

pub end-requires : goal.end-requires
end-requires g c = live_in c.args.self.now.failure (g.W.Wrapper.meaning c.args.self.now.inner) _ c.requires

pub returns-clause-ended : goal.returns-clause-ended
returns-clause-ended g c = ends_after c.args.self.now.failure c.forget_scan.new.self (g.W.Wrapper.meaning c.args.self.now.inner) (g.W.Wrapper.meaning c.end.new.self) _ c.forget_scan.ensures c.end.ensures
