use Rattle.probe_wrapper.proofs.CountingLemmas.{if_ok, if_err}
use Rattle.probe_wrapper.proofs.FailingLemmas.{can_close, closes}
use Rattle.probe_wrapper.proofs.FailingCalls.{closes_after, refuses_close_after}
use Rattle.probe_wrapper.proofs.failing.FailingWrapper.end_modify.Goals as goal

pub returns-then-not-keep-clause-ok : goal.returns-then-not-keep-clause-ok
returns-then-not-keep-clause-ok g c = if_ok _ _ c.end_modify.result (λ _ r. closes c.args.self.now.failure (g.W.Wrapper.meaning c.args.self.now.inner) (g.W.Wrapper.meaning c.end_modify.new.self) c.args.keep r) c.end_modify.ensures.ok

pub end_modify-requires-2 : goal.end_modify-requires-2
end_modify-requires-2 g c = can_close c.args.self.now.failure (g.W.Wrapper.meaning c.args.self.now.inner) c.args.keep c.requires

pub returns-clause-ok : goal.returns-clause-ok
returns-clause-ok g c = if_ok _ _ c.end_modify-2.result (λ _ r. closes_after c.args.self.now.failure c.counts.new.self (g.W.Wrapper.meaning c.args.self.now.inner) (g.W.Wrapper.meaning c.end_modify-2.new.self) c.args.keep c.counts.ensures.counted r) c.end_modify-2.ensures.ok

pub returns-clause-err : goal.returns-clause-err
returns-clause-err g c = if_err _ _ c.end_modify-2.result (λ x r. refuses_close_after c.args.self.now.failure c.counts.new.self (g.W.Wrapper.meaning c.args.self.now.inner) (g.W.Wrapper.meaning c.end_modify-2.new.self) c.args.keep x c.counts.ensures.counted r) c.end_modify-2.ensures.err
