use Rattle.pushdown.proofs.Cores.{one_sees}
use Rattle.pushdown.proofs.column_laws.cores_read_their_columns.Goals as goal

pub returns : goal.returns
returns c = one_sees
