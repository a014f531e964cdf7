use Rattle.session_wire.proofs.Leased.{stay, stay_declared}
use Rattle.session_wire.proofs.law.leased_tables_stay.Goals as goal

pub returns-clause-open : goal.returns-clause-open
returns-clause-open c = stay c.one_tree.ensures

pub returns-clause-declared : goal.returns-clause-declared
returns-clause-declared c = stay_declared c.one_tree.ensures
