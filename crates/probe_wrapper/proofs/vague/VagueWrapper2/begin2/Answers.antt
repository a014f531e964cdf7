use Rattle.std.proofs.Common.{refl}
use Rattle.fdw_api.proofs.LiftLemmas.{if_ok}
use Rattle.fdw_api.proofs.Unpromised.{can_begin, begins}
use Rattle.probe_wrapper.specs.Vague.{box_of}
use Rattle.probe_wrapper.proofs.vague.VagueWrapper2.begin2.Goals as goal

pub begin-requires : goal.begin-requires
begin-requires g c = can_begin (box_of g.W.Wrapper.meaning c.args.self.now) _ _ _ refl c.requires

pub returns-clause-ok : goal.returns-clause-ok
returns-clause-ok g c = if_ok _ _ c.begin.result (λ t b. begins (box_of g.W.Wrapper.meaning c.args.self.now) (box_of g.W.Wrapper.meaning c.begin.new.self) _ _ _ _ refl c.requires b) c.begin.ensures.ok
