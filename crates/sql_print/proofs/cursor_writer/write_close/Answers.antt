use Rattle.std.proofs.Common.{◌∷◌, [], codes}
use Rattle.std.specs.String.{string_bytes}
use Rattle.med_lexer.specs.Lexemes.{word, quoted}
use Rattle.ddl_parser.proofs.DdlWriting.{more_if}
use Rattle.sql_print.proofs.cursor_writer.write_close.Goals as goal

pub returns : goal.returns
returns c = more_if c.write_called.result _ _ _ (word (codes "close")) (quoted (string_bytes c.args.name.now) ∷ []) c.in_ok-write_word.ensures c.write_called.ensures
