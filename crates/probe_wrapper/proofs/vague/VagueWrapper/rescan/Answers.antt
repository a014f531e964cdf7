use Rattle.std.proofs.Common.{true}
use Rattle.probe_wrapper.specs.Shy.{asked_of}
use Rattle.probe_wrapper.proofs.ShyCalls.{can_rescan, breaks, again_bare}
use Rattle.probe_wrapper.proofs.ShyScans.{entry_is_there, spoiled, asked_again}
use Rattle.probe_wrapper.proofs.CallLemmas.{rescan_is_open}
use Rattle.probe_wrapper.proofs.vague.VagueWrapper.rescan.Goals as goal

pub spoil-requires : goal.spoil-requires
spoil-requires g c = entry_is_there true (g.W.Wrapper.meaning c.args.self.now.inner) c.args.self.now.scans _ (rescan_is_open _ _ _ c.requires)

pub returns-in-Err-clause-err : goal.returns-in-Err-clause-err
returns-in-Err-clause-err g c = spoiled true (g.W.Wrapper.meaning c.args.self.now.inner) c.args.self.now.scans c.spoil.new.scans _ (rescan_is_open _ _ _ c.requires) c.spoil.ensures

pub rescan-requires : goal.rescan-requires
rescan-requires g c = can_rescan true (asked_of c.args.self.now.scans) (g.W.Wrapper.meaning c.args.self.now.inner) _ _ c.requires

pub returns-in-Err-rescan-clause-err : goal.returns-in-Err-rescan-clause-err
returns-in-Err-rescan-clause-err g c = breaks true (asked_of c.args.self.now.scans) (g.W.Wrapper.meaning c.args.self.now.inner) (g.W.Wrapper.meaning c.rescan.new.self) _ _ c.in-Err-rescan.ensures.err

pub ask_again-requires : goal.ask_again-requires
ask_again-requires g c = entry_is_there true (g.W.Wrapper.meaning c.args.self.now.inner) c.args.self.now.scans _ (rescan_is_open _ _ _ c.requires)

pub returns-in-Ok-rescan-clause-ok : goal.returns-in-Ok-rescan-clause-ok
returns-in-Ok-rescan-clause-ok g c = asked_again true (g.W.Wrapper.meaning c.args.self.now.inner) (g.W.Wrapper.meaning c.rescan.new.self) c.args.self.now.scans c.ask_again.new.scans _ _ _ c.in-Ok.ensures c.requires c.in-Ok-rescan.ensures.ok c.ask_again.ensures

pub returns-in-Ok-rescan-clause-bare : goal.returns-in-Ok-rescan-clause-bare
returns-in-Ok-rescan-clause-bare g c = again_bare true (asked_of c.args.self.now.scans) (g.W.Wrapper.meaning c.args.self.now.inner) (g.W.Wrapper.meaning c.rescan.new.self) _ _ c.requires c.in-Ok-rescan.ensures.ok
