use Rattle.std.proofs.Common.{◌∷◌, codes}
use Rattle.std.specs.String.{string_bytes}
use Rattle.med_lexer.specs.Lexemes.{word, quoted}
use Rattle.med_syntax.specs.QueryView.{statement_tree}
use Rattle.ddl_parser.proofs.DdlWriting.{more_if}
use Rattle.sql_print.specs.CursorPrinting.{query_written}
use Rattle.sql_print.proofs.cursor_writer.write_declare.Goals as goal

pub returns : goal.returns
returns c =
    more_if c.write_query.result _ _ _ (word (codes "declare")) (quoted (string_bytes c.args.declare.now.name) ∷ word (codes "cursor") ∷ word (codes "for") ∷ query_written (statement_tree c.args.declare.now.query)) c.in_ok-write_word.ensures
    (more_if c.write_query.result _ _ _ (quoted (string_bytes c.args.declare.now.name)) (word (codes "cursor") ∷ word (codes "for") ∷ query_written (statement_tree c.args.declare.now.query)) c.in_ok-write_called.ensures
    (more_if c.write_query.result _ _ _ (word (codes "cursor")) (word (codes "for") ∷ query_written (statement_tree c.args.declare.now.query)) c.in_ok-write_word-2.ensures
    (more_if c.write_query.result _ _ _ (word (codes "for")) (query_written (statement_tree c.args.declare.now.query)) c.in_ok-write_word-3.ensures c.write_query.ensures)))
