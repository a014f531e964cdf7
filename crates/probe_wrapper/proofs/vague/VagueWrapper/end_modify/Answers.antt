use Rattle.std.proofs.Common.{true}
use Rattle.probe_wrapper.specs.Shy.{asked_of}
use Rattle.probe_wrapper.proofs.CountingLemmas.{if_ok, if_err}
use Rattle.probe_wrapper.proofs.ShyCalls.{can_close, closes, refuses_close}
use Rattle.probe_wrapper.proofs.vague.VagueWrapper.end_modify.Goals as goal

pub end_modify-requires : goal.end_modify-requires
end_modify-requires g c = can_close true (asked_of c.args.self.now.scans) (g.W.Wrapper.meaning c.args.self.now.inner) _ c.requires

pub returns-clause-ok : goal.returns-clause-ok
returns-clause-ok g c = if_ok _ _ c.end_modify.result (λ _ r. closes true (asked_of c.args.self.now.scans) (g.W.Wrapper.meaning c.args.self.now.inner) (g.W.Wrapper.meaning c.end_modify.new.self) c.args.keep r) c.end_modify.ensures.ok

pub returns-clause-err : goal.returns-clause-err
returns-clause-err g c = if_err _ _ c.end_modify.result (λ f r. refuses_close true (asked_of c.args.self.now.scans) (g.W.Wrapper.meaning c.args.self.now.inner) (g.W.Wrapper.meaning c.end_modify.new.self) c.args.keep f r) c.end_modify.ensures.err
