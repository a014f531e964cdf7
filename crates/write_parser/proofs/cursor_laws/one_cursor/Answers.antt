use Rattle.write_parser.proofs.CursorRead.{one_cursor}
use Rattle.write_parser.proofs.cursor_laws.one_cursor.Goals as goal

pub returns : goal.returns
returns c = one_cursor
