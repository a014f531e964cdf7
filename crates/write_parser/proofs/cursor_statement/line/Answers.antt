use Rattle.std.specs.String.{string_bytes}
use Rattle.med_syntax.specs.View.{shapes_of}
use Rattle.write_parser.proofs.CursorRead.{query_readable}
use Rattle.write_parser.proofs.cursor_statement.line.Goals as goal

pub query-requires : goal.query-requires
query-requires c = query_readable (shapes_of c.args.tokens.now) (string_bytes c.in-Ok.found.0) (shapes_of c.in-Ok.found.1.now) c.in-Ok.ensures c.requires
