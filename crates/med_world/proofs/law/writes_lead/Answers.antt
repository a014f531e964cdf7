use Rattle.med_world.proofs.RowLeads.{rows_done_sound, rows_not_done_sound}
use Rattle.med_world.proofs.RowReplies.{writes_done, writes_refused}
use Rattle.med_world.proofs.law.writes_lead.Goals as goal

pub returns-clause-done : goal.returns-clause-done
returns-clause-done c = writes_done

pub returns-clause-refused : goal.returns-clause-refused
returns-clause-refused c = writes_refused (record { names = c.causes_have_their_phase.ensures.names; types = c.causes_have_their_phase.ensures.types })

pub returns-clause-done_sound : goal.returns-clause-done_sound
returns-clause-done_sound c = λ e new user t count sound h. rows_done_sound e user t count new sound h

pub returns-clause-refused_sound : goal.returns-clause-refused_sound
returns-clause-refused_sound c = λ e new user t k sound h. rows_not_done_sound e user t k new sound h
