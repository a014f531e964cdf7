use Rattle.med_world.proofs.Phases.{objects_phased}
use Rattle.med_world.proofs.Leading.{altered_leads}
use Rattle.med_world.proofs.Ending.{not_altered_leads}
use Rattle.med_world.proofs.Alterations.{altered_sound, not_altered_sound}
use Rattle.med_world.proofs.law.changes_lead.Goals as goal

pub returns-clause-done : goal.returns-clause-done
returns-clause-done c = altered_leads (objects_phased (record { lowest = c.causes_have_their_phase.ensures.lowest; highest = c.causes_have_their_phase.ensures.highest }))

pub returns-clause-refused : goal.returns-clause-refused
returns-clause-refused c = not_altered_leads (objects_phased (record { lowest = c.causes_have_their_phase.ensures.lowest; highest = c.causes_have_their_phase.ensures.highest }))

pub returns-clause-done_sound : goal.returns-clause-done_sound
returns-clause-done_sound c = altered_sound (record { binds = c.tables_stay_sound.ensures.binds; refuses = c.tables_stay_sound.ensures.refuses }) c.tables_stay_sound.ensures.unbinds

pub returns-clause-refused_sound : goal.returns-clause-refused_sound
returns-clause-refused_sound c = not_altered_sound (record { binds = c.tables_stay_sound.ensures.binds; refuses = c.tables_stay_sound.ensures.refuses }) c.tables_stay_sound.ensures.unbinds
