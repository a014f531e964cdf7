use Rattle.pushdown.proofs.Reading.{lists_show, lists_keep}
use Rattle.pushdown.proofs.column_laws.lists_read_their_columns.Goals as goal

pub returns-clause-show : goal.returns-clause-show
returns-clause-show c = lists_show

pub returns-clause-keep : goal.returns-clause-keep
returns-clause-keep c = lists_keep
