use Rattle.fdw_api.proofs.LiftLemmas.{if_ok, closes}
use Rattle.fdw_api.proofs.lift.LiftWrapper.end_modify.Goals as goal

pub returns-clause-ok : goal.returns-clause-ok
returns-clause-ok g c = if_ok _ _ c.end_modify.result (λ a p. closes (g.W.Wrapper.meaning c.args.self.now.inner) (g.W.Wrapper.meaning c.end_modify.new.self) c.args.keep p) c.end_modify.ensures.ok
