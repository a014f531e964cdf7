use Rattle.med_world.proofs.Fetches.{begins, all}
use Rattle.med_world.proofs.law.fetches_join.Goals as goal

pub returns-clause-begins : goal.returns-clause-begins
returns-clause-begins c = begins

pub returns-clause-all : goal.returns-clause-all
returns-clause-all c = all
