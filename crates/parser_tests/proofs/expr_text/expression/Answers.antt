use Rattle.std.proofs.Common.{List, Global, sym, subst}
use Rattle.std.proofs.lemmas.Result.{err_from_is_err_and}
use Rattle.med_lexer.specs.declared.Token.{Token}
use Rattle.med_lexer.specs.Lexemes.{Lexes}
use Rattle.med_lexer.specs.View.{views}
use Rattle.med_syntax.proofs.TokenShapes.{OneList, printable}
use Rattle.parser_tests.proofs.ExprParsed.{lexed_read, text_found, text_none, text_refused, only_memory}
use Rattle.parser_tests.proofs.expr_text.expression.Goals as goal

pub returns-in_err-tokens-clause-read : goal.returns-in_err-tokens-clause-read
returns-in_err-tokens-clause-read c =
    let p = err_from_is_err_and c.from_residual.result c.from_residual.ensures.1 in
    lexed_read Global c.args.text.now c.in_err-tokens.field-0.0 c.from_residual.result c.in_err-tokens.ensures (cc)

pub checked_expr-requires : goal.checked_expr-requires
checked_expr-requires c =
    printable c.in_ok-tokens.tokens.items c.deref.result.now c.deref.ensures.value (c.tokens_can_be_printed.ensures c.args.text.now (views c.in_ok-tokens.tokens.items) c.in_ok-tokens.ensures.0)

pub returns-clause-found : goal.returns-clause-found
returns-clause-found c =
    text_found c.args.text.now c.deref.result.now (subst (λ (ts : List Token). Lexes 0 c.args.text.now (views ts)) (sym c.deref.ensures.value) c.in_ok-tokens.ensures.0) c.checked_expr.result c.checked_expr.ensures.found

pub returns-clause-clear : goal.returns-clause-clear
returns-clause-clear c =
    text_none c.args.text.now c.deref.result.now (subst (λ (ts : List Token). Lexes 0 c.args.text.now (views ts)) (sym c.deref.ensures.value) c.in_ok-tokens.ensures.0)
    (subst (λ (ts : List Token). OneList c.args.text.now (views ts)) (sym c.deref.ensures.value) c.in_ok-tokens.ensures.1) c.checked_expr.result c.checked_expr.ensures.clear

pub returns-clause-refused : goal.returns-clause-refused
returns-clause-refused c =
    text_refused c.args.text.now c.deref.result.now (subst (λ (ts : List Token). Lexes 0 c.args.text.now (views ts)) (sym c.deref.ensures.value) c.in_ok-tokens.ensures.0)
    (subst (λ (ts : List Token). OneList c.args.text.now (views ts)) (sym c.deref.ensures.value) c.in_ok-tokens.ensures.1) c.checked_expr.result c.checked_expr.ensures.refused

pub returns-clause-read : goal.returns-clause-read
returns-clause-read c =
    only_memory c.args.text.now c.checked_expr.result (text_refused c.args.text.now c.deref.result.now (subst (λ (ts : List Token). Lexes 0 c.args.text.now (views ts)) (sym c.deref.ensures.value) c.in_ok-tokens.ensures.0)
    (subst (λ (ts : List Token). OneList c.args.text.now (views ts)) (sym c.deref.ensures.value) c.in_ok-tokens.ensures.1) c.checked_expr.result c.checked_expr.ensures.refused)
