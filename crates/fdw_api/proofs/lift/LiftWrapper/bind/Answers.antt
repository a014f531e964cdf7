use Rattle.fdw_api.proofs.LiftLemmas.{if_ok, binds}
use Rattle.fdw_api.proofs.lift.LiftWrapper.bind.Goals as goal

pub returns-clause-ok : goal.returns-clause-ok
returns-clause-ok g c = if_ok _ _ c.bind.result (λ t b. binds (g.W.Wrapper.meaning c.args.self.now.inner) (g.W.Wrapper.meaning c.bind.new.self) _ _ _ _ b) c.bind.ensures.ok
