use Rattle.med_world.proofs.Phases.{queries_phased}
use Rattle.med_world.proofs.Declaring.{declared, not_declared, taken}
use Rattle.med_world.proofs.Turns.{fetched, not_fetched, closed, unknown}
use Rattle.med_world.proofs.CursorSeats.{declared_sound, not_declared_sound, fetched_sound, ended_sound}
use Rattle.med_world.proofs.law.cursors_lead.Goals as goal

pub returns-clause-declared_sound : goal.returns-clause-declared_sound
returns-clause-declared_sound c = declared_sound

pub returns-clause-not_declared_sound : goal.returns-clause-not_declared_sound
returns-clause-not_declared_sound c = not_declared_sound

pub returns-clause-fetched_sound : goal.returns-clause-fetched_sound
returns-clause-fetched_sound c = fetched_sound

pub returns-clause-ended_sound : goal.returns-clause-ended_sound
returns-clause-ended_sound c = ended_sound

pub returns-clause-declared : goal.returns-clause-declared
returns-clause-declared c = declared

pub returns-clause-not_declared : goal.returns-clause-not_declared
returns-clause-not_declared c = not_declared (queries_phased (record { names = c.causes_have_their_phase.ensures.names; types = c.causes_have_their_phase.ensures.types }))

pub returns-clause-exists : goal.returns-clause-exists
returns-clause-exists c = taken (queries_phased (record { names = c.causes_have_their_phase.ensures.names; types = c.causes_have_their_phase.ensures.types }))

pub returns-clause-fetched : goal.returns-clause-fetched
returns-clause-fetched c = fetched

pub returns-clause-not_fetched : goal.returns-clause-not_fetched
returns-clause-not_fetched c = not_fetched

pub returns-clause-closed : goal.returns-clause-closed
returns-clause-closed c = closed

pub returns-clause-unknown : goal.returns-clause-unknown
returns-clause-unknown c = unknown
