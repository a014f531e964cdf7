use Rattle.med_world.proofs.Faring.{none_rises}
use Rattle.std.proofs.Common.{refl}
use Rattle.med_value.specs.declared.cause.Cause.TheVariants.{OutOfMemory}
use Rattle.med_world.proofs.Asks.{asks_refused}
use Rattle.med_world.proofs.Leading.{leads_memory}
use Rattle.med_world.proofs.Sessions.{opened, opened_twice, closed, closed_twice, opened_sound, closed_sound}
use Rattle.med_world.proofs.law.sessions_lead.Goals as goal

pub returns-clause-opened : goal.returns-clause-opened
returns-clause-opened c = opened

pub returns-clause-not_opened : goal.returns-clause-not_opened
returns-clause-not_opened c = opened_twice

pub returns-clause-closed : goal.returns-clause-closed
returns-clause-closed c = closed

pub returns-clause-not_closed : goal.returns-clause-not_closed
returns-clause-not_closed c = closed_twice

pub returns-clause-no_memory : goal.returns-clause-no_memory
returns-clause-no_memory c = λ e sid request takes. leads_memory e e sid request (asks_refused e sid request OutOfMemory e refl) takes (none_rises e.boxes) (λ w a. a)

pub returns-clause-opened_sound : goal.returns-clause-opened_sound
returns-clause-opened_sound c = opened_sound

pub returns-clause-closed_sound : goal.returns-clause-closed_sound
returns-clause-closed_sound c = closed_sound
