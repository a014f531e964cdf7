use Rattle.std.proofs.Common.{true}
use Rattle.probe_wrapper.specs.Shy.{asked_of}
use Rattle.probe_wrapper.proofs.CountingLemmas.{if_ok, if_err}
use Rattle.probe_wrapper.proofs.ShyCalls.{can_change, stages, refuses_change}
use Rattle.probe_wrapper.proofs.vague.VagueWrapper.delete.Goals as goal

pub delete-requires : goal.delete-requires
delete-requires g c = can_change true (asked_of c.args.self.now.scans) (g.W.Wrapper.meaning c.args.self.now.inner) _ c.requires

pub returns-clause-ok : goal.returns-clause-ok
returns-clause-ok g c = if_ok _ _ c.delete.result (λ _ r. stages true (asked_of c.args.self.now.scans) (g.W.Wrapper.meaning c.args.self.now.inner) (g.W.Wrapper.meaning c.delete.new.self) _ r) c.delete.ensures.ok

pub returns-clause-err : goal.returns-clause-err
returns-clause-err g c = if_err _ _ c.delete.result (λ f r. refuses_change true (asked_of c.args.self.now.scans) (g.W.Wrapper.meaning c.args.self.now.inner) (g.W.Wrapper.meaning c.delete.new.self) _ f r) c.delete.ensures.err
