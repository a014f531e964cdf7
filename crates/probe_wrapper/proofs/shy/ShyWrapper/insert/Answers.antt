use Rattle.std.proofs.Common.{false}
use Rattle.probe_wrapper.specs.Shy.{asked_of}
use Rattle.probe_wrapper.proofs.CountingLemmas.{if_ok, if_err}
use Rattle.probe_wrapper.proofs.ShyCalls.{can_change, stages, refuses_change}
use Rattle.probe_wrapper.proofs.shy.ShyWrapper.insert.Goals as goal

pub insert-requires : goal.insert-requires
insert-requires g c = can_change false (asked_of c.args.self.now.scans) (g.W.Wrapper.meaning c.args.self.now.inner) _ c.requires

pub returns-clause-ok : goal.returns-clause-ok
returns-clause-ok g c = if_ok _ _ c.insert.result (λ _ r. stages false (asked_of c.args.self.now.scans) (g.W.Wrapper.meaning c.args.self.now.inner) (g.W.Wrapper.meaning c.insert.new.self) _ r) c.insert.ensures.ok

pub returns-clause-err : goal.returns-clause-err
returns-clause-err g c = if_err _ _ c.insert.result (λ f r. refuses_change false (asked_of c.args.self.now.scans) (g.W.Wrapper.meaning c.args.self.now.inner) (g.W.Wrapper.meaning c.insert.new.self) _ f r) c.insert.ensures.err
