use Rattle.std.proofs.Common.{false}
use Rattle.probe_wrapper.specs.Shy.{asked_of}
use Rattle.probe_wrapper.proofs.CountingLemmas.{if_ok, if_err}
use Rattle.probe_wrapper.proofs.ShyLemmas.{is_open_in}
use Rattle.probe_wrapper.proofs.ShyCalls.{gives, breaks}
use Rattle.probe_wrapper.proofs.shy.ShyWrapper.iterate.Goals as goal

pub iterate-requires : goal.iterate-requires
iterate-requires g c = is_open_in false (g.W.Wrapper.meaning c.args.self.now.inner) (asked_of c.args.self.now.scans) _ c.requires

pub returns-clause-ok : goal.returns-clause-ok
returns-clause-ok g c = if_ok _ _ c.iterate.result (λ row p. gives false (asked_of c.args.self.now.scans) (g.W.Wrapper.meaning c.args.self.now.inner) (g.W.Wrapper.meaning c.iterate.new.self) _ row c.requires p) c.iterate.ensures.ok

pub returns-clause-err : goal.returns-clause-err
returns-clause-err g c = if_err _ _ c.iterate.result (λ f p. breaks false (asked_of c.args.self.now.scans) (g.W.Wrapper.meaning c.args.self.now.inner) (g.W.Wrapper.meaning c.iterate.new.self) _ f p) c.iterate.ensures.err
