use Rattle.probe_wrapper.proofs.FailingLemmas.{can_rescan}
use Rattle.probe_wrapper.proofs.CountingLemmas.{if_ok, if_err}
use Rattle.probe_wrapper.proofs.FailingCalls.{rescans_after, breaks_after}
use Rattle.probe_wrapper.proofs.CallLemmas.{rescan_is_open}
use Rattle.probe_wrapper.proofs.failing.FailingWrapper.rescan.Goals as goal

pub rescan-requires : goal.rescan-requires
rescan-requires g c = can_rescan c.args.self.now.failure (g.W.Wrapper.meaning c.args.self.now.inner) _ _ c.requires

pub returns-clause-ok : goal.returns-clause-ok
returns-clause-ok g c = if_ok _ _ c.rescan.result (λ _ r. rescans_after c.args.self.now.failure c.counts.new.self (g.W.Wrapper.meaning c.args.self.now.inner) (g.W.Wrapper.meaning c.rescan.new.self) _ _ c.counts.ensures.counted (rescan_is_open _ _ _ c.requires) r) c.rescan.ensures.ok

pub returns-clause-err : goal.returns-clause-err
returns-clause-err g c = if_err _ _ c.rescan.result (λ x r. breaks_after c.args.self.now.failure c.counts.new.self (g.W.Wrapper.meaning c.args.self.now.inner) (g.W.Wrapper.meaning c.rescan.new.self) _ x c.counts.ensures.counted (rescan_is_open _ _ _ c.requires) r) c.rescan.ensures.err
