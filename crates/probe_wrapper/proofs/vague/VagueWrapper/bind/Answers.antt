use Rattle.std.proofs.Common.{true}
use Rattle.probe_wrapper.specs.Shy.{asked_of}
use Rattle.probe_wrapper.proofs.CountingLemmas.{if_ok, if_err}
use Rattle.probe_wrapper.proofs.ShyCalls.{can_bind, binds, refuses_bind}
use Rattle.probe_wrapper.proofs.vague.VagueWrapper.bind.Goals as goal

pub bind-requires : goal.bind-requires
bind-requires g c = can_bind true (g.W.Wrapper.meaning c.args.self.now.inner) (asked_of c.args.self.now.scans) _ _ _ c.requires

pub returns-clause-ok : goal.returns-clause-ok
returns-clause-ok g c = if_ok _ _ c.bind.result (λ n b. binds true (asked_of c.args.self.now.scans) (g.W.Wrapper.meaning c.args.self.now.inner) (g.W.Wrapper.meaning c.bind.new.self) _ _ _ n.number b) c.bind.ensures.ok

pub returns-clause-err : goal.returns-clause-err
returns-clause-err g c = if_err _ _ c.bind.result (λ f r. refuses_bind true (asked_of c.args.self.now.scans) (g.W.Wrapper.meaning c.args.self.now.inner) (g.W.Wrapper.meaning c.bind.new.self) _ _ _ f r) c.bind.ensures.err
