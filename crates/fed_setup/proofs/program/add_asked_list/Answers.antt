use Rattle.fed_setup.proofs.FirstEngines.{one_list, one_label, list_needs_memory}
use Rattle.fed_setup.proofs.program.add_asked_list.Goals as goal

-- the list was added
pub returns-clause-world : goal.returns-clause-world
returns-clause-world g c = λ w agrees.
    let one = c.in-Ok.ensures.world w agrees in
    (one.0, one_list _ _ _ _ c.in-Some.is one.1, one.2)

pub returns-clause-labels : goal.returns-clause-labels
returns-clause-labels g c = one_label _ _ _ _ c.requires.empty c.in-Some.is c.in-Ok.ensures.labels

-- it was not
pub returns-in-Err-clause-fault : goal.returns-in-Err-clause-fault
returns-in-Err-clause-fault g c = list_needs_memory _ _ _ c.requires.empty c.in-Err.ensures.fault
