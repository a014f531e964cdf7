use Rattle.std.proofs.Common.{List, rules, subst}
use Rattle.list_wrapper.specs.Lists.{Listed, IsNewList}
use Rattle.list_wrapper.specs.Scans.{list_state}
use Rattle.std.proofs.Common.{None}
use Rattle.list_wrapper.proofs.NewLists.{new_list}
use Rattle.list_wrapper.proofs.list.ListWrapper.new.Goals as goal

pub returns-clause-new : goal.returns-clause-new
returns-clause-new c =
    let tables = c.in_ok-tables.tables.items in
    subst (λ (l : List Listed). IsNewList (list_state tables c.in_ok-bound.bound.items c.new.result None 0 0) l) c.in_ok-tables.ensures
    (new_list tables c.in_ok-bound.bound.items c.new.result c.len.result (search rules) (λ q. search rules))
