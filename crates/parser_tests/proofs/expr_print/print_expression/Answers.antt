use Rattle.std.proofs.Common.{arith, List, ℕ, ◌≡◌, ◌∷◌, ap, sym, subst, length}
use Rattle.std.specs.String.{string_bytes}
use Rattle.med_syntax.specs.Prelude.{HasExpr, expr_tree}
use Rattle.expr_writer.specs.ExprPrinting.{printed_expr}
use Rattle.expr_writer.proofs.ExprPrints.{spaced, removed}
use Rattle.parser_tests.proofs.expr_print.print_expression.Goals as goal

pub remove-requires-clause-in_bounds : goal.remove-requires-clause-in_bounds
remove-requires-clause-in_bounds c =
    let h : string_bytes c.write.new.out ≡ 32 ∷ printed_expr (expr_tree c.args.expr.now) = spaced (expr_tree c.args.expr.now) (string_bytes c.new-out.result) (string_bytes c.write.new.out) c.new-out.ensures.bytes c.in_ok-write.ensures in
    omega (arith, ap length h)

pub returns-clause-again : goal.returns-clause-again
returns-clause-again c = λ text has r.
    let h : string_bytes c.write.new.out ≡ 32 ∷ printed_expr (expr_tree c.args.expr.now) = spaced (expr_tree c.args.expr.now) (string_bytes c.new-out.result) (string_bytes c.write.new.out) c.new-out.ensures.bytes c.in_ok-write.ensures in
    subst (λ (bs : List ℕ). HasExpr bs (expr_tree c.args.expr.now)) (sym (removed (string_bytes c.write.new.out) (string_bytes c.remove.new.self) (printed_expr (expr_tree c.args.expr.now)) h c.remove.ensures.ascii_bytes))
    (c.printed_expression.ensures text (expr_tree c.args.expr.now) has r)
