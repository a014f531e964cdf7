use Rattle.med_world.proofs.Phases.{queries_phased, objects_phased}
use Rattle.med_world.proofs.Told.{AreLater}
use Rattle.med_world.proofs.Answering.{tree_later, not_open, not_read}
use Rattle.med_world.proofs.law.statements_are_refused.Goals as goal

pub returns-clause-not_open : goal.returns-clause-not_open
returns-clause-not_open c =
    let later : AreLater = tree_later (objects_phased (record { lowest = c.causes_have_their_phase-2.ensures.lowest; highest = c.causes_have_their_phase-2.ensures.highest }))
    (queries_phased (record { names = c.causes_have_their_phase.ensures.names; types = c.causes_have_their_phase.ensures.types }))
    (record { names = c.causes_have_their_phase-3.ensures.names; types = c.causes_have_their_phase-3.ensures.types }) in
    not_open later

pub returns-clause-not_read : goal.returns-clause-not_read
returns-clause-not_read c =
    let later : AreLater = tree_later (objects_phased (record { lowest = c.causes_have_their_phase-2.ensures.lowest; highest = c.causes_have_their_phase-2.ensures.highest }))
    (queries_phased (record { names = c.causes_have_their_phase.ensures.names; types = c.causes_have_their_phase.ensures.types }))
    (record { names = c.causes_have_their_phase-3.ensures.names; types = c.causes_have_their_phase-3.ensures.types }) in
    not_read later
