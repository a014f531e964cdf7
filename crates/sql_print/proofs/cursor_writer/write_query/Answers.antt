use Rattle.sql_print.proofs.CursorWriting.{query_if}
use Rattle.sql_print.proofs.cursor_writer.write_query.Goals as goal

pub returns : goal.returns
returns c = query_if c.write_statement.result _ _ _ c.write_statement.ensures
