use Rattle.write_parser.proofs.CursorRead.{no_ddl, no_query}
use Rattle.write_parser.proofs.cursor_laws.no_statement.Goals as goal

pub returns-clause-query : goal.returns-clause-query
returns-clause-query c = no_query

pub returns-clause-ddl : goal.returns-clause-ddl
returns-clause-ddl c = no_ddl
