use Rattle.probe_wrapper.specs.Shuffled.{turns_of}
use Rattle.probe_wrapper.proofs.ShuffledCalls.{can_rescan, breaks_again}
use Rattle.probe_wrapper.proofs.ShuffledScans.{entry_is_there, restarts, restarts_turned}
use Rattle.probe_wrapper.proofs.CallLemmas.{rescan_is_open}
use Rattle.probe_wrapper.proofs.shuffled.ShuffledWrapper.rescan.Goals as goal

pub rescan-requires : goal.rescan-requires
rescan-requires g c = can_rescan (turns_of c.args.self.now.scans) c.args.self.now.pulled (g.W.Wrapper.meaning c.args.self.now.inner) _ _ c.requires

pub restart-requires : goal.restart-requires
restart-requires g c = entry_is_there (g.W.Wrapper.meaning c.args.self.now.inner) c.args.self.now.scans c.args.self.now.pulled _ (rescan_is_open _ _ _ c.requires)

pub returns-in-Err-clause-err : goal.returns-in-Err-clause-err
returns-in-Err-clause-err g c = breaks_again (turns_of c.args.self.now.scans) c.args.self.now.pulled (g.W.Wrapper.meaning c.args.self.now.inner) (g.W.Wrapper.meaning c.rescan.new.self) _ _ c.in-Err.ensures.err

pub returns-in-Ok-clause-ok : goal.returns-in-Ok-clause-ok
returns-in-Ok-clause-ok g c = restarts (g.W.Wrapper.meaning c.args.self.now.inner) (g.W.Wrapper.meaning c.rescan.new.self) c.args.self.now.scans c.restart.new.scans c.args.self.now.pulled _ _ _ c.requires c.in-Ok.ensures.ok c.restart.ensures

pub returns-in-Ok-clause-turned : goal.returns-in-Ok-clause-turned
returns-in-Ok-clause-turned g c = restarts_turned (g.W.Wrapper.meaning c.args.self.now.inner) (g.W.Wrapper.meaning c.rescan.new.self) c.args.self.now.scans c.restart.new.scans c.args.self.now.pulled _ c.args.self.now.turns _ _ c.requires c.saturating_add-self.ensures c.restart.ensures
