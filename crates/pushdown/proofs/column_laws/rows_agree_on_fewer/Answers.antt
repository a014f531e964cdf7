use Rattle.pushdown.proofs.Reading.{fewer_agree, as_many}
use Rattle.pushdown.proofs.column_laws.rows_agree_on_fewer.Goals as goal

pub returns-clause-fewer : goal.returns-clause-fewer
returns-clause-fewer c = fewer_agree

pub returns-clause-many : goal.returns-clause-many
returns-clause-many c = as_many
