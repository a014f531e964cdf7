use Rattle.wrapper_parts.proofs.Taking.{sought_comes}
use Rattle.wrapper_parts.proofs.law.sought_rows_come.Goals as goal

pub returns : goal.returns
returns c = sought_comes
