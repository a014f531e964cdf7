-- Which texts are commands: statements on data, statements that write rows, statements on cursors, and statements on the objects of the
-- catalogue.
use Rattle.std.specs.Prelude.{ℕ, List}
use Rattle.med_lexer.specs.Lexemes.{Shape, Lexeme, Lexes}
use Rattle.med_syntax.specs.Prelude.{shapes, IsStatement}
use Rattle.med_parser.specs.CommandTree.{CommandTree, on_data, on_rows, on_cursors, on_objects}
use Rattle.write_parser.specs.WriteGrammar.{IsWrite}
use Rattle.write_parser.specs.CursorGrammar.{IsCursor}
use Rattle.ddl_parser.specs.DdlGrammar.{IsDdl}

-- The tokens are a line of the grammar with this tree.
abbrev pub IsCommand : List Shape → CommandTree → Type 0
IsCommand ts (on_data s) = IsStatement ts s
IsCommand ts (on_rows w) = IsWrite ts w
IsCommand ts (on_cursors x) = IsCursor ts x
IsCommand ts (on_objects d) = IsDdl ts d

-- The text has this tree: its one list of longest tokens is a line of the grammar with this tree.
abbrev pub HasCommand : List ℕ → CommandTree → Type 0
HasCommand text c = (ts : List Lexeme) × Lexes 0 text ts × IsCommand (shapes ts) c
