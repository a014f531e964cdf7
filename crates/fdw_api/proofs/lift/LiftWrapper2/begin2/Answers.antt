use Rattle.fdw_api.proofs.LiftLemmas.{if_ok, can_begin, begins_2}
use Rattle.fdw_api.proofs.lift.LiftWrapper2.begin2.Goals as goal

pub begin-requires : goal.begin-requires
begin-requires g c = can_begin (g.W.Wrapper.meaning c.args.self.now.inner) _ _ _ c.requires

pub returns-clause-ok : goal.returns-clause-ok
returns-clause-ok g c = if_ok _ _ c.begin.result (λ t b. begins_2 (g.W.Wrapper.meaning c.args.self.now.inner) (g.W.Wrapper.meaning c.begin.new.self) _ _ _ _ c.requires b) c.begin.ensures.ok
