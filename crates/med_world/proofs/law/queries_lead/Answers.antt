use Rattle.med_world.proofs.Phases.{queries_phased}
use Rattle.med_world.proofs.Answering.{selects, select_fails, selects_sound, fails_sound}
use Rattle.med_world.proofs.law.queries_lead.Goals as goal

pub returns-clause-answered : goal.returns-clause-answered
returns-clause-answered c = selects

pub returns-clause-refused : goal.returns-clause-refused
returns-clause-refused c = select_fails (queries_phased (record { names = c.causes_have_their_phase.ensures.names; types = c.causes_have_their_phase.ensures.types }))

pub returns-clause-answered_sound : goal.returns-clause-answered_sound
returns-clause-answered_sound c = selects_sound

pub returns-clause-refused_sound : goal.returns-clause-refused_sound
returns-clause-refused_sound c = fails_sound
