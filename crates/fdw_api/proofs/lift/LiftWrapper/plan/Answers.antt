use Rattle.fdw_api.proofs.LiftLemmas.{if_ok, allows}
use Rattle.fdw_api.proofs.lift.LiftWrapper.plan.Goals as goal

pub returns-clause-ok : goal.returns-clause-ok
returns-clause-ok g c = if_ok _ _ c.plan.result (λ a p. allows (g.W.Wrapper.meaning c.args.self.now.inner) _ _ p) c.plan.ensures.ok
