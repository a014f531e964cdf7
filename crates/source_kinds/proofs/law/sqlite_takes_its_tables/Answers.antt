use Rattle.source_kinds.proofs.SqliteTakes.{sqlite_takes}
use Rattle.source_kinds.proofs.law.sqlite_takes_its_tables.Goals as goal

pub returns : goal.returns
returns c = sqlite_takes
