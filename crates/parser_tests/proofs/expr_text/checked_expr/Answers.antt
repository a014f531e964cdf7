use Rattle.std.proofs.Common.{◌≡◌, true, false, sym, ◌∙◌, inl, inr}
use Rattle.std.proofs.lemmas.Result.{err_from_is_err_and}
use Rattle.med_syntax.specs.Prelude.{shapes_of, expr_tree}
use Rattle.med_syntax.proofs.TokenShapes.{short_names}
use Rattle.med_syntax.proofs.TokenNumbers.{huge, readable}
use Rattle.parser_tests.proofs.ExprParsed.{told, told_refused, read_expr, no_cause}
use Rattle.parser_tests.proofs.expr_text.checked_expr.Goals as goal

pub returns-then-has_unreadable-clause-refused : goal.returns-then-has_unreadable-clause-refused
returns-then-has_unreadable-clause-refused c = inr (inl (huge c.args.tokens.now c.requires (c.has_unreadable.ensures.0 c.if-has_unreadable.true)))

pub expr_of-requires : goal.expr_of-requires
expr_of-requires c =
    readable c.args.tokens.now c.requires (λ h. absurd (let t : c.has_unreadable.result ≡ true = c.has_unreadable.ensures.1 h in let f : c.has_unreadable.result ≡ false = c.if-has_unreadable.false in cc))

pub returns-in_err-expr-clause-refused : goal.returns-in_err-expr-clause-refused
returns-in_err-expr-clause-refused c =
    let p = err_from_is_err_and c.from_residual.result c.from_residual.ensures.1 in
    told_refused (shapes_of c.args.tokens.now) c.in_err-expr.field-0.0 c.from_residual.result (told (shapes_of c.args.tokens.now) c.in_err-expr.field-0.0 c.in_err-expr.ensures) (cc)

pub returns-then-is_in_range-clause-found : goal.returns-then-is_in_range-clause-found
returns-then-is_in_range-clause-found c = (read_expr (shapes_of c.args.tokens.now) (expr_tree c.in_ok-expr.expr) c.in_ok-expr.ensures).0

pub returns-then-is_in_range-clause-clear : goal.returns-then-is_in_range-clause-clear
returns-then-is_in_range-clause-clear c =
    let x = read_expr (shapes_of c.args.tokens.now) (expr_tree c.in_ok-expr.expr) c.in_ok-expr.ensures in
    no_cause (shapes_of c.args.tokens.now) (expr_tree c.in_ok-expr.expr) x.0 x.1 (sym c.is_in_range.ensures ∙ c.if-is_in_range.true)
    (readable c.args.tokens.now c.requires (λ h. absurd (let t : c.has_unreadable.result ≡ true = c.has_unreadable.ensures.1 h in let f : c.has_unreadable.result ≡ false = c.if-has_unreadable.false in cc)))
    (λ h. absurd (let t : c.has_long_name.result ≡ true = c.has_long_name.ensures.1 (short_names c.args.tokens.now h) in let f : c.has_long_name.result ≡ false = c.if-has_long_name.false in cc))

pub returns-else-is_in_range-clause-refused : goal.returns-else-is_in_range-clause-refused
returns-else-is_in_range-clause-refused c =
    inr (inr (expr_tree c.in_ok-expr.expr, (read_expr (shapes_of c.args.tokens.now) (expr_tree c.in_ok-expr.expr) c.in_ok-expr.ensures).0, sym c.is_in_range.ensures ∙ c.if-is_in_range.false))
