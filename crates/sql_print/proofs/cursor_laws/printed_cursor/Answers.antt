use Rattle.sql_print.proofs.CursorPrints.{printed_has}
use Rattle.sql_print.proofs.cursor_laws.printed_cursor.Goals as goal

pub returns : goal.returns
returns c = printed_has c.printed_again.ensures c.tokens_can_be_printed.ensures
