use Rattle.fed_setup.proofs.FirstEngines.{list_takes, has_list}
use Rattle.fed_setup.proofs.program.add_list.Goals as goal

-- a list takes what the catalogue lets pass
pub add_source-requires-clause-takes : goal.add_source-requires-clause-takes
add_source-requires-clause-takes g c = list_takes _ c.requires.demo c.lists_are_told_nothing.ensures

pub returns-clause-world : goal.returns-clause-world
returns-clause-world g c = λ w agrees. has_list _ _ w _ _ c.requires.demo c.in-Ok.ensures.added c.in-Ok.ensures.world agrees
