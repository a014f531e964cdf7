use Rattle.session_wire.proofs.Joined.{one_answer}
use Rattle.session_wire.proofs.Opened.{declared_gives}
use Rattle.session_wire.proofs.law.fetches_give_one_answer.Goals as goal

pub returns-clause-open : goal.returns-clause-open
returns-clause-open c = one_answer c.one_tree.ensures (record { begins = c.fetches_join.ensures.begins; all = c.fetches_join.ensures.all })

pub returns-clause-declared : goal.returns-clause-declared
returns-clause-declared c = declared_gives c.one_tree.ensures (record { begins = c.fetches_join.ensures.begins; all = c.fetches_join.ensures.all })
