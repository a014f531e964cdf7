use Rattle.probe_wrapper.proofs.FailingCalls.{begins_after, refuses_begin_after}
use Rattle.probe_wrapper.proofs.failing.FailingWrapper2.begin2.Goals as goal

pub returns-in-Ok-clause-ok : goal.returns-in-Ok-clause-ok
returns-in-Ok-clause-ok g c = begins_after c.args.self.now.failure c.counts.new.self c.forget_scan.new.self (g.W.Wrapper.meaning c.args.self.now.inner) (g.W.Wrapper.meaning c.begin2.new.self) _ _ _ _ c.counts.ensures.counted c.forget_scan.ensures c.in-Ok.ensures.ok

pub returns-in-Err-clause-err : goal.returns-in-Err-clause-err
returns-in-Err-clause-err g c = refuses_begin_after c.args.self.now.failure c.counts.new.self (g.W.Wrapper.meaning c.args.self.now.inner) (g.W.Wrapper.meaning c.begin2.new.self) _ c.counts.ensures.counted c.in-Err.ensures.err
