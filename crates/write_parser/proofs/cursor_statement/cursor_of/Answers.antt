use Rattle.med_syntax.specs.View.{shapes_of}
use Rattle.write_parser.proofs.CursorRead.{line_found, line_low, line_refused}
use Rattle.write_parser.proofs.cursor_statement.cursor_of.Goals as goal

pub returns-clause-found : goal.returns-clause-found
returns-clause-found c = line_found (shapes_of c.args.tokens.now) c.line.result c.line.ensures

pub returns-clause-low : goal.returns-clause-low
returns-clause-low c = line_low (shapes_of c.args.tokens.now) c.line.result c.line.ensures

pub returns-clause-refused : goal.returns-clause-refused
returns-clause-refused c = line_refused (shapes_of c.args.tokens.now) c.line.result c.line.ensures
