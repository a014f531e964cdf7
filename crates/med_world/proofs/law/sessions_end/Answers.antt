use Rattle.med_world.proofs.Sessions.{closes, closes_none, closes_all, closed_sound, none_sound, closes_all_sound, closed_at_rest}
use Rattle.med_world.proofs.law.sessions_end.Goals as goal

pub returns-clause-one : goal.returns-clause-one
returns-clause-one c = closes

pub returns-clause-none : goal.returns-clause-none
returns-clause-none c = closes_none

pub returns-clause-all : goal.returns-clause-all
returns-clause-all c = closes_all

pub returns-clause-one_sound : goal.returns-clause-one_sound
returns-clause-one_sound c = closed_sound

pub returns-clause-none_sound : goal.returns-clause-none_sound
returns-clause-none_sound c = none_sound

pub returns-clause-all_sound : goal.returns-clause-all_sound
returns-clause-all_sound c = closes_all_sound

pub returns-clause-at_rest : goal.returns-clause-at_rest
returns-clause-at_rest c = closed_at_rest
