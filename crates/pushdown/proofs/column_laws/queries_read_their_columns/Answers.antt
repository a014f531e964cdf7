use Rattle.pushdown.proofs.Queries.{query_seen, tables_seen, lists_seen}
use Rattle.pushdown.proofs.column_laws.queries_read_their_columns.Goals as goal

pub returns-clause-any : goal.returns-clause-any
returns-clause-any c = query_seen

pub returns-clause-tables : goal.returns-clause-tables
returns-clause-tables c = tables_seen

pub returns-clause-lists : goal.returns-clause-lists
returns-clause-lists c = lists_seen
