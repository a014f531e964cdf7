use Rattle.probe_wrapper.proofs.FailingLemmas.{can_modify}
use Rattle.probe_wrapper.proofs.FailingCalls.{opens_after, refuses_modify_after}
use Rattle.probe_wrapper.proofs.failing.FailingWrapper.begin_modify.Goals as goal

pub begin_modify-requires : goal.begin_modify-requires
begin_modify-requires g c = can_modify c.args.self.now.failure (g.W.Wrapper.meaning c.args.self.now.inner) _ c.requires

pub returns-in-Ok-clause-ok : goal.returns-in-Ok-clause-ok
returns-in-Ok-clause-ok g c = opens_after c.args.self.now.failure c.counts.new.self c.forget_write.new.self (g.W.Wrapper.meaning c.args.self.now.inner) (g.W.Wrapper.meaning c.begin_modify.new.self) _ c.counts.ensures.counted c.forget_write.ensures c.in-Ok.ensures.ok

pub returns-in-Err-clause-err : goal.returns-in-Err-clause-err
returns-in-Err-clause-err g c = refuses_modify_after c.args.self.now.failure c.counts.new.self (g.W.Wrapper.meaning c.args.self.now.inner) (g.W.Wrapper.meaning c.begin_modify.new.self) _ c.counts.ensures.counted c.in-Err.ensures.err
