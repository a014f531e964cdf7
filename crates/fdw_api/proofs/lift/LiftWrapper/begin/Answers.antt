use Rattle.fdw_api.proofs.LiftLemmas.{if_ok, begins}
use Rattle.fdw_api.proofs.lift.LiftWrapper.begin.Goals as goal

pub returns-clause-ok : goal.returns-clause-ok
returns-clause-ok g c = if_ok _ _ c.begin.result (λ t b. begins (g.W.Wrapper.meaning c.args.self.now.inner) (g.W.Wrapper.meaning c.begin.new.self) _ _ _ _ b) c.begin.ensures.ok
