use Rattle.std.proofs.Common.{true}
use Rattle.probe_wrapper.specs.Shy.{asked_of}
use Rattle.probe_wrapper.proofs.ShyCalls.{can_unbind, unbinds}
use Rattle.probe_wrapper.proofs.vague.VagueWrapper.unbind.Goals as goal

pub unbind-requires : goal.unbind-requires
unbind-requires g c = can_unbind true (asked_of c.args.self.now.scans) (g.W.Wrapper.meaning c.args.self.now.inner) _ c.requires

pub returns : goal.returns
returns g c = unbinds true (asked_of c.args.self.now.scans) (g.W.Wrapper.meaning c.args.self.now.inner) (g.W.Wrapper.meaning c.unbind.new.self) _ c.unbind.ensures
