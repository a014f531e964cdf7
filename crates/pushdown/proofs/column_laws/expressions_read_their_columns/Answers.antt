use Rattle.pushdown.proofs.Reading.{reads, shows}
use Rattle.pushdown.proofs.column_laws.expressions_read_their_columns.Goals as goal

pub returns-clause-means : goal.returns-clause-means
returns-clause-means c = reads

pub returns-clause-shows : goal.returns-clause-shows
returns-clause-shows c = shows
