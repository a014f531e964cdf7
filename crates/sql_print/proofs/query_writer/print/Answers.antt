use Rattle.std.proofs.Common.{arith, List, ℕ, ◌≡◌, ◌∷◌, ap, sym, subst, length}
use Rattle.std.specs.String.{string_bytes}
use Rattle.med_syntax.specs.Prelude.{HasStatement, statement_tree}
use Rattle.sql_print.specs.QueryPrinting.{printed_statement}
use Rattle.expr_writer.proofs.ExprPrints.{removed}
use Rattle.sql_print.proofs.WritingParts.{spaced}
use Rattle.sql_print.proofs.query_writer.print.Goals as goal

pub remove-requires-clause-in_bounds : goal.remove-requires-clause-in_bounds
remove-requires-clause-in_bounds c =
    let h : string_bytes c.write_statement.new.out ≡ 32 ∷ printed_statement (statement_tree c.args.statement.now) = spaced (statement_tree c.args.statement.now) (string_bytes c.new-out.result) (string_bytes c.write_statement.new.out) c.new-out.ensures.bytes c.in_ok-write_statement.ensures in
    omega (arith, ap length h)

pub returns-clause-again : goal.returns-clause-again
returns-clause-again c = λ text has r.
    let h : string_bytes c.write_statement.new.out ≡ 32 ∷ printed_statement (statement_tree c.args.statement.now) = spaced (statement_tree c.args.statement.now) (string_bytes c.new-out.result) (string_bytes c.write_statement.new.out) c.new-out.ensures.bytes c.in_ok-write_statement.ensures in
    subst (λ (bs : List ℕ). HasStatement bs (statement_tree c.args.statement.now)) (sym (removed (string_bytes c.write_statement.new.out) (string_bytes c.remove.new.self) (printed_statement (statement_tree c.args.statement.now)) h c.remove.ensures.ascii_bytes))
    (c.printed_statement.ensures text (statement_tree c.args.statement.now) has r)
