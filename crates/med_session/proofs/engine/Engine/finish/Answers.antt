use Rattle.std.proofs.Common.{refl}
use Rattle.med_session.specs.Shows.{shown}
use Rattle.med_session.proofs.engine.Engine.finish.Goals as goal

pub returns-clause-closed : goal.returns-clause-closed
returns-clause-closed g c = (shown g.W.Wrapper.meaning c.close_sessions.new.self, c.close_sessions.ensures.closes, refl)

pub returns-clause-at_rest : goal.returns-clause-at_rest
returns-clause-at_rest g c = c.sessions_end.ensures.at_rest (shown g.W.Wrapper.meaning c.close_sessions.new.self) c.close_sessions.ensures.sound c.close_sessions.ensures.closed
