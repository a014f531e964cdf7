use Rattle.std.proofs.Common.{arith, List, ℕ, ◌≡◌, ◌∷◌, ap, sym, subst, length}
use Rattle.std.specs.String.{string_bytes}
use Rattle.med_syntax.specs.WriteView.{write_tree}
use Rattle.write_parser.specs.WriteGrammar.{HasWrite}
use Rattle.expr_writer.proofs.ExprPrints.{removed}
use Rattle.sql_print.specs.WritePrinting.{printed_write}
use Rattle.sql_print.proofs.WriteParts.{spaced}
use Rattle.sql_print.proofs.write_writer.print.Goals as goal

pub remove-requires-clause-in_bounds : goal.remove-requires-clause-in_bounds
remove-requires-clause-in_bounds c =
    let h : string_bytes c.write_tokens.new.out ≡ 32 ∷ printed_write (write_tree c.args.statement.now) = spaced (write_tree c.args.statement.now) (string_bytes c.new-out.result) (string_bytes c.write_tokens.new.out) c.new-out.ensures.bytes c.in_ok-write_tokens.ensures in
    omega (arith, ap length h)

pub returns-clause-written : goal.returns-clause-written
returns-clause-written c =
    let h : string_bytes c.write_tokens.new.out ≡ 32 ∷ printed_write (write_tree c.args.statement.now) = spaced (write_tree c.args.statement.now) (string_bytes c.new-out.result) (string_bytes c.write_tokens.new.out) c.new-out.ensures.bytes c.in_ok-write_tokens.ensures in
    removed (string_bytes c.write_tokens.new.out) (string_bytes c.remove.new.self) (printed_write (write_tree c.args.statement.now)) h c.remove.ensures.ascii_bytes

pub returns-clause-again : goal.returns-clause-again
returns-clause-again c = λ text has fit.
    let h : string_bytes c.write_tokens.new.out ≡ 32 ∷ printed_write (write_tree c.args.statement.now) = spaced (write_tree c.args.statement.now) (string_bytes c.new-out.result) (string_bytes c.write_tokens.new.out) c.new-out.ensures.bytes c.in_ok-write_tokens.ensures in
    subst (λ (bs : List ℕ). HasWrite bs (write_tree c.args.statement.now)) (sym (removed (string_bytes c.write_tokens.new.out) (string_bytes c.remove.new.self) (printed_write (write_tree c.args.statement.now)) h c.remove.ensures.ascii_bytes))
    (c.printed_write.ensures text (write_tree c.args.statement.now) has fit)
