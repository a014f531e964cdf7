use Rattle.med_world.proofs.Phases.{queries_phased, objects_phased}
use Rattle.med_world.proofs.Told.{AreLater, unpicked}
use Rattle.med_world.proofs.Answering.{tree_later}
use Rattle.med_world.proofs.law.syntax_asks_no_pick.Goals as goal

pub returns : goal.returns
returns c =
    let later : AreLater = tree_later (objects_phased (record { lowest = c.causes_have_their_phase-2.ensures.lowest; highest = c.causes_have_their_phase-2.ensures.highest }))
    (queries_phased (record { names = c.causes_have_their_phase.ensures.names; types = c.causes_have_their_phase.ensures.types }))
    (record { names = c.causes_have_their_phase-3.ensures.names; types = c.causes_have_their_phase-3.ensures.types }) in
    unpicked later
