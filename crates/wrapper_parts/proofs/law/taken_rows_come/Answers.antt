use Rattle.wrapper_parts.proofs.Taking.{taken_comes, taken_at_places}
use Rattle.wrapper_parts.proofs.law.taken_rows_come.Goals as goal

pub returns-clause-comes : goal.returns-clause-comes
returns-clause-comes c = taken_comes

pub returns-clause-at_places : goal.returns-clause-at_places
returns-clause-at_places c = taken_at_places
