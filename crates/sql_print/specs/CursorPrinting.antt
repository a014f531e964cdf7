-- Statements on cursors written out: keywords in upper case, every name in double quotes, FETCH with its number for one row too, FROM
-- before its name, no other optional word, and one space between tokens. A query is written as it is alone.
use Rattle.std.specs.Prelude.{ℕ, List, [], ◌∷◌, codes}
use Rattle.std.specs.Fmt.{decimal}
use Rattle.med_lexer.specs.Lexemes.{Shape, word, quoted, number}
use Rattle.med_lexer.specs.Printing.{printed}
use Rattle.med_syntax.specs.Prelude.{StatementTree, CountTree, some_rows, all_rows, CursorTree, declare, fetch, close}
use Rattle.expr_writer.specs.ExprPrinting.{shapes_for}
use Rattle.sql_print.specs.QueryPrinting.{statement_written}

-- ---- the tokens that a statement is written by

abbrev pub count_written : CountTree → Shape
count_written (some_rows n) = number (decimal n)
count_written all_rows = word (codes "all")

abbrev pub query_written : StatementTree → List Shape
query_written q = shapes_for (statement_written q)

abbrev pub cursor_written : CursorTree → List Shape
cursor_written (declare n q) = word (codes "declare") ∷ quoted n ∷ word (codes "cursor") ∷ word (codes "for") ∷ query_written q
cursor_written (fetch c n) = word (codes "fetch") ∷ count_written c ∷ word (codes "from") ∷ quoted n ∷ []
cursor_written (close n) = word (codes "close") ∷ quoted n ∷ []

abbrev pub printed_cursor : CursorTree → List ℕ
printed_cursor c = printed (cursor_written c)
