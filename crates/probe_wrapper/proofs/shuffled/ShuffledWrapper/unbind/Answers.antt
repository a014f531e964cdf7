use Rattle.probe_wrapper.proofs.ShuffledCalls.{can_unbind, unbinds}
use Rattle.probe_wrapper.proofs.shuffled.ShuffledWrapper.unbind.Goals as goal

pub unbind-requires : goal.unbind-requires
unbind-requires g c = can_unbind _ _ (g.W.Wrapper.meaning c.args.self.now.inner) _ c.requires

pub returns-clause-unbound : goal.returns-clause-unbound
returns-clause-unbound g c = unbinds _ _ (g.W.Wrapper.meaning c.args.self.now.inner) (g.W.Wrapper.meaning c.unbind.new.self) _ c.unbind.ensures
