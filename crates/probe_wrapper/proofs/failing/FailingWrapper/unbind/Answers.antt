use Rattle.probe_wrapper.proofs.FailingLemmas.{can_unbind, unbinds}
use Rattle.probe_wrapper.proofs.failing.FailingWrapper.unbind.Goals as goal

pub unbind-requires : goal.unbind-requires
unbind-requires g c = can_unbind c.args.self.now.failure (g.W.Wrapper.meaning c.args.self.now.inner) _ c.requires

pub returns-clause-unbound : goal.returns-clause-unbound
returns-clause-unbound g c = unbinds c.args.self.now.failure (g.W.Wrapper.meaning c.args.self.now.inner) (g.W.Wrapper.meaning c.unbind.new.self) _ c.unbind.ensures
