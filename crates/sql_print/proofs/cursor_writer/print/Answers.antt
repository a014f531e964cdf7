use Rattle.std.proofs.Common.{arith, List, ℕ, ◌≡◌, ◌∷◌, ap, sym, subst, length}
use Rattle.std.specs.String.{string_bytes}
use Rattle.expr_writer.proofs.ExprPrints.{removed}
use Rattle.med_syntax.specs.CursorView.{cursor_tree}
use Rattle.write_parser.specs.CursorGrammar.{HasCursor}
use Rattle.sql_print.specs.CursorPrinting.{printed_cursor}
use Rattle.sql_print.proofs.CursorWriting.{spaced}
use Rattle.sql_print.proofs.cursor_writer.print.Goals as goal

pub remove-requires-clause-in_bounds : goal.remove-requires-clause-in_bounds
remove-requires-clause-in_bounds c =
    let h : string_bytes c.write_cursor.new.out ≡ 32 ∷ printed_cursor (cursor_tree c.args.statement.now) = spaced (cursor_tree c.args.statement.now) (string_bytes c.new-out.result) (string_bytes c.write_cursor.new.out) c.new-out.ensures.bytes c.in_ok-write_cursor.ensures in
    omega (arith, ap length h)

pub returns-clause-written : goal.returns-clause-written
returns-clause-written c =
    let h : string_bytes c.write_cursor.new.out ≡ 32 ∷ printed_cursor (cursor_tree c.args.statement.now) = spaced (cursor_tree c.args.statement.now) (string_bytes c.new-out.result) (string_bytes c.write_cursor.new.out) c.new-out.ensures.bytes c.in_ok-write_cursor.ensures in
    removed (string_bytes c.write_cursor.new.out) (string_bytes c.remove.new.self) (printed_cursor (cursor_tree c.args.statement.now)) h c.remove.ensures.ascii_bytes

pub returns-clause-again : goal.returns-clause-again
returns-clause-again c = λ text has r.
    let h : string_bytes c.write_cursor.new.out ≡ 32 ∷ printed_cursor (cursor_tree c.args.statement.now) = spaced (cursor_tree c.args.statement.now) (string_bytes c.new-out.result) (string_bytes c.write_cursor.new.out) c.new-out.ensures.bytes c.in_ok-write_cursor.ensures in
    subst (λ (bs : List ℕ). HasCursor bs (cursor_tree c.args.statement.now)) (sym (removed (string_bytes c.write_cursor.new.out) (string_bytes c.remove.new.self) (printed_cursor (cursor_tree c.args.statement.now)) h c.remove.ensures.ascii_bytes))
    (c.printed_cursor.ensures text (cursor_tree c.args.statement.now) has r)
