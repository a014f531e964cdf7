use Rattle.med_world.proofs.Beginning.{empty_sound, empty_agrees}
use Rattle.med_world.proofs.law.engines_begin.Goals as goal

pub returns-clause-sound : goal.returns-clause-sound
returns-clause-sound c = empty_sound

pub returns-clause-agrees : goal.returns-clause-agrees
returns-clause-agrees c = empty_agrees
