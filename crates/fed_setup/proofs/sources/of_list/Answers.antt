use Rattle.std.proofs.Common.{refl}
use Rattle.list_wrapper.specs.ListBoxes.{box_of}
use Rattle.fed_setup.proofs.sources.of_list.Goals as goal

pub returns-clause-takes : goal.returns-clause-takes
returns-clause-takes g c = c.lists_take_their_tables.ensures.all (box_of c.args.list) refl
