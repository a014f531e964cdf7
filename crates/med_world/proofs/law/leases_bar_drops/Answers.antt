use Rattle.med_world.proofs.LeaseLemmas.{told, barred, clear}
use Rattle.med_world.proofs.law.leases_bar_drops.Goals as goal

pub returns-clause-told : goal.returns-clause-told
returns-clause-told c = told c.causes_have_their_phase.ensures.highest

pub returns-clause-barred : goal.returns-clause-barred
returns-clause-barred c = barred

pub returns-clause-clear : goal.returns-clause-clear
returns-clause-clear c = clear
