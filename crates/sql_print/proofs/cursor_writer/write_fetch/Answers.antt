use Rattle.std.proofs.Common.{◌∷◌, [], codes}
use Rattle.std.specs.String.{string_bytes}
use Rattle.med_lexer.specs.Lexemes.{word, quoted}
use Rattle.ddl_parser.proofs.DdlWriting.{more_if}
use Rattle.med_syntax.specs.CursorView.{count_tree}
use Rattle.sql_print.specs.CursorPrinting.{count_written}
use Rattle.sql_print.proofs.cursor_writer.write_fetch.Goals as goal

pub returns : goal.returns
returns c =
    more_if c.write_called.result _ _ _ (word (codes "fetch")) (count_written (count_tree c.args.it.now.count) ∷ word (codes "from") ∷ quoted (string_bytes c.args.it.now.name) ∷ []) c.in_ok-write_word.ensures
    (more_if c.write_called.result _ _ _ (count_written (count_tree c.args.it.now.count)) (word (codes "from") ∷ quoted (string_bytes c.args.it.now.name) ∷ []) c.in_ok-write_count.ensures
    (more_if c.write_called.result _ _ _ (word (codes "from")) (quoted (string_bytes c.args.it.now.name) ∷ []) c.in_ok-write_word-2.ensures c.write_called.ensures))
