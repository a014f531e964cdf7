use Rattle.pushdown.proofs.Found.{may_come, may_come_unordered}
use Rattle.pushdown.proofs.law.lookups_may_come.Goals as goal

pub returns-clause-ordered : goal.returns-clause-ordered
returns-clause-ordered c = may_come

pub returns-clause-unordered : goal.returns-clause-unordered
returns-clause-unordered c = may_come_unordered
