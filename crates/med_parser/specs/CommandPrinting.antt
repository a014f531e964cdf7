-- Commands written out: keywords in upper case, every name in double quotes, and one space between tokens.
use Rattle.std.specs.Prelude.{ℕ, List}
use Rattle.med_parser.specs.CommandTree.{CommandTree, on_data, on_rows, on_cursors, on_objects}
use Rattle.sql_print.specs.QueryPrinting.{printed_statement}
use Rattle.sql_print.specs.WritePrinting.{printed_write}
use Rattle.sql_print.specs.CursorPrinting.{printed_cursor}
use Rattle.ddl_parser.specs.DdlPrinting.{printed_ddl}

abbrev pub printed_command : CommandTree → List ℕ
printed_command (on_data s) = printed_statement s
printed_command (on_rows w) = printed_write w
printed_command (on_cursors x) = printed_cursor x
printed_command (on_objects d) = printed_ddl d
