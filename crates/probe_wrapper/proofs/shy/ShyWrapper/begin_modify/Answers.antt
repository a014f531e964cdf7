use Rattle.std.proofs.Common.{false}
use Rattle.probe_wrapper.specs.Shy.{asked_of}
use Rattle.probe_wrapper.proofs.CountingLemmas.{if_ok, if_err}
use Rattle.probe_wrapper.proofs.ShyCalls.{can_modify, opens, refuses_modify}
use Rattle.probe_wrapper.proofs.shy.ShyWrapper.begin_modify.Goals as goal

pub begin_modify-requires : goal.begin_modify-requires
begin_modify-requires g c = can_modify false (asked_of c.args.self.now.scans) (g.W.Wrapper.meaning c.args.self.now.inner) _ c.requires

pub returns-clause-ok : goal.returns-clause-ok
returns-clause-ok g c = if_ok _ _ c.begin_modify.result (λ _ o. opens false (asked_of c.args.self.now.scans) (g.W.Wrapper.meaning c.args.self.now.inner) (g.W.Wrapper.meaning c.begin_modify.new.self) _ o) c.begin_modify.ensures.ok

pub returns-clause-err : goal.returns-clause-err
returns-clause-err g c = if_err _ _ c.begin_modify.result (λ f r. refuses_modify false (asked_of c.args.self.now.scans) (g.W.Wrapper.meaning c.args.self.now.inner) (g.W.Wrapper.meaning c.begin_modify.new.self) f r) c.begin_modify.ensures.err
