use Rattle.med_statements.proofs.Written.{written_typed}
use Rattle.med_statements.proofs.typed_law.written_rows_are_typed.Goals as goal

pub returns : goal.returns
returns c = λ o t db answer none clean given. written_typed o t db answer none clean given
