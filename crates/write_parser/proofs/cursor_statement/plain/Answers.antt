use Rattle.std.proofs.Common.{codes}
use Rattle.med_syntax.specs.View.{shapes_of}
use Rattle.write_parser.proofs.CursorRead.{word_readable}
use Rattle.write_parser.proofs.cursor_statement.plain.Goals as goal

pub fetch-requires : goal.fetch-requires
fetch-requires c = word_readable (codes "fetch") (shapes_of c.args.tokens.now) (shapes_of c.in-Some.after.now) c.in-Some.ensures c.requires
