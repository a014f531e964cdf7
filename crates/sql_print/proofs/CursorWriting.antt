-- What was written: tokens one after the other, each behind a space.
use Rattle.std.proofs.Common.{◌≡◌, ℕ, List, [], ◌∷◌, ◌++◌, ◌∙◌, ap}
use Rattle.std.specs.Prelude.{Result, Ok, Err, IfOk}
use Rattle.std.specs.Fmt.{decimal}
use Rattle.med_lexer.specs.Lexemes.{quoted, number}
use Rattle.med_lexer.specs.Printing.{behind_spaces}
use Rattle.med_syntax.specs.Prelude.{Terminal, CursorTree, declare, fetch, close}
use Rattle.med_syntax.specs.Terminal as t
use Rattle.expr_writer.specs.ExprPrinting.{shapes_for}
use Rattle.expr_writer.specs.ExprPrinting as expr
use Rattle.ddl_parser.specs.DdlPrinting.{Wrote}
use Rattle.sql_print.specs.CursorPrinting.{cursor_written, printed_cursor}

pub wrote_name : (a b n : List ℕ) → expr.Wrote a b (t.Name n ∷ []) → Wrote a b (quoted n ∷ [])
wrote_name a b n w = record { is = w.is }

pub wrote_number : (a b : List ℕ) (n : ℕ) → expr.Wrote a b (t.Num n ∷ []) → Wrote a b (number (decimal n) ∷ [])
wrote_number a b n w = record { is = w.is }

pub query_if : {U E : Type 0} (r : Result U E) (a b : List ℕ) (us : List Terminal) → IfOk r (λ u. expr.Wrote a b us) → IfOk r (λ u. Wrote a b (shapes_for us))
query_if (Ok u) a b us w = record { is = w.is }
query_if (Err e) a b us w = tt

pub spaced : (c : CursorTree) (a b : List ℕ) → a ≡ [] → Wrote a b (cursor_written c) → b ≡ 32 ∷ printed_cursor c
spaced (declare n q) a b p w = w.is ∙ ap (λ y. y ++ behind_spaces (cursor_written (declare n q))) p
spaced (fetch c n) a b p w = w.is ∙ ap (λ y. y ++ behind_spaces (cursor_written (fetch c n))) p
spaced (close n) a b p w = w.is ∙ ap (λ y. y ++ behind_spaces (cursor_written (close n))) p
