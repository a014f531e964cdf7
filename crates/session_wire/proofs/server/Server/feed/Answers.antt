use Rattle.session_wire.proofs.FrontOfLine.{left_is_front}
use Rattle.session_wire.proofs.Runs.{refused_next}
use Rattle.session_wire.proofs.server.Server.feed.Goals as goal

pub invariant_of-self : goal.invariant_of-self
invariant_of-self g c =
    let taken = rw c.in-Ok-Open.field-0-is at c.in-Ok-Open.ensures.ok in
    record { between = λ _. left_is_front _ _ taken.3 }

-- room was refused
pub returns-in-Err-clause-cause : goal.returns-in-Err-clause-cause
returns-in-Err-clause-cause g c = λ _. refused_next _ _ _ _ _ _ _ _ c.in-Err.ensures.cause c.close_sessions.ensures.ended
