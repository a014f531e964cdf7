use Rattle.med_world.proofs.Joining.{sound_of, agrees_of}
use Rattle.med_world.proofs.law.sources_are_added.Goals as goal

pub returns-clause-sound : goal.returns-clause-sound
returns-clause-sound c = sound_of c.tables_stay_sound.ensures.idle

pub returns-clause-agrees : goal.returns-clause-agrees
returns-clause-agrees c = agrees_of
