-- The goals of the parser that the search leaves.
use Rattle.std.proofs.Common.{arith, ◌-◌, ◌<◌, List, length, ap, subst, sym}
use Rattle.std.proofs.lemmas.Result.{err_from_is_err_and}
use Rattle.med_syntax.specs.declared.symbols.Symbol.{Symbol}
use Rattle.med_syntax.specs.ExprReading.{Read, below}
use Rattle.expr_reader.specs.ReaderAnswers.{Answers}
use Rattle.med_syntax.specs.declared.expr.Expr.{Expr}
use Rattle.med_syntax.specs.ExprTree.{binary}
use Rattle.med_syntax.specs.ExprView.{expr_tree, expr_trees}
use Rattle.med_syntax.specs.SymbolView.{terminals_of}
use Rattle.expr_reader.proofs.ExprLoops.{OthersLoop, chain_preserved, chain_smaller, chain_failed, chain_failed_high, chain_end, others_smaller, others_preserved, others_failed, others_end, parts_low, signed_plain, signed_minus, operand_sum}
use Rattle.expr_reader.proofs.+reader.Goals as goal

pub arithmetic::chain-loop-op-smaller : goal.arithmetic::chain-loop-op-smaller
arithmetic::chain-loop-op-smaller t c =
    chain_smaller c.args.level c.args.room (terminals_of c.loop-op.found.rest.now) c.in-Some.op (terminals_of c.in-Some.after.now) (expr_tree c.in_ok-right.right.expr) (terminals_of c.in_ok-right.right.rest.now) (binary c.in-Some.op (expr_tree c.in_ok-left.left.value) (expr_tree c.in_ok-right.right.expr)) (expr_tree c.in_ok-found-2.found.expr) (terminals_of c.in_ok-found-2.found.rest.now)
    c.requires.some c.in-Some.ensures (c.in_ok-right.ensures).0 (c.in_ok-found-2.ensures).0

pub arithmetic::chain-loop-op-preserved : goal.arithmetic::chain-loop-op-preserved
arithmetic::chain-loop-op-preserved t c =
    chain_preserved c.args.level c.args.room (terminals_of c.args.symbols.now) (expr_tree c.loop-op.found.expr) c.loop-op.found.height (terminals_of c.loop-op.found.rest.now) c.in-Some.op (terminals_of c.in-Some.after.now) (expr_tree c.in_ok-right.right.expr) (terminals_of c.in_ok-right.right.rest.now) (binary c.in-Some.op (expr_tree c.in_ok-left.left.value) (expr_tree c.in_ok-right.right.expr)) (expr_tree c.in_ok-found-2.found.expr) c.in_ok-found-2.found.height (terminals_of c.in_ok-found-2.found.rest.now)
    c.requires.some c.loop-op.invariant c.in-Some.ensures (c.in_ok-right.ensures).0 (ap (λ (y : Expr). binary c.in-Some.op (expr_tree y) (expr_tree c.in_ok-right.right.expr)) c.in_ok-left.ensures.ok) (c.in_ok-found-2.ensures).0 (c.in_ok-found-2.ensures).1 (c.in_ok-found-2.ensures).2

pub conditions::others-returns-in_err-next : goal.conditions::others-returns-in_err-next
conditions::others-returns-in_err-next t c =
    let p = err_from_is_err_and c.from_residual.result c.from_residual.ensures.1 in
    others_failed c.args.separator c.args.room (terminals_of c.args.symbols.now) (expr_trees c.loop-after.list.items) c.loop-after.highest (terminals_of c.loop-after.rest.now) (terminals_of c.in-Some.after.now) c.in_err-next.field-0.0 c.from_residual.result
    c.loop-after.invariant c.in-Some.ensures c.in_err-next.ensures (cc)

pub conditions::others-loop-after-smaller : goal.conditions::others-loop-after-smaller
conditions::others-loop-after-smaller t c =
    subst (λ (us : List Symbol). length (terminals_of us) < length (terminals_of c.loop-after.rest.now)) (sym c.onward-rest-in-Some.ensures)
    (others_smaller c.args.separator c.args.room (terminals_of c.loop-after.rest.now) (terminals_of c.in-Some.after.now) (expr_tree c.in_ok-next.next.expr) (terminals_of c.in_ok-next.next.rest.now) c.requires.some c.in-Some.ensures (c.in_ok-next.ensures).0)

pub conditions::others-loop-after-preserved : goal.conditions::others-loop-after-preserved
conditions::others-loop-after-preserved t c =
    subst (λ (us : List Symbol). OthersLoop c.args.separator c.args.room (terminals_of c.args.symbols.now) (expr_trees c.push.new.self.items) c.max-highest.result (terminals_of us)) (sym c.onward-rest-in-Some.ensures)
    (others_preserved c.args.separator c.args.room (terminals_of c.args.symbols.now) c.loop-after.list.items c.push.new.self.items c.in_ok-next.next.expr c.loop-after.highest c.max-highest.result (terminals_of c.loop-after.rest.now) (terminals_of c.in-Some.after.now) c.in_ok-next.next.height (terminals_of c.in_ok-next.next.rest.now)
    c.requires.some c.loop-after.invariant c.in-Some.ensures (c.in_ok-next.ensures).0 (c.in_ok-next.ensures).1 (c.in_ok-next.ensures).2 c.in_ok-push.ensures.items (omega (arith, c.max-highest.ensures)))

pub conditions::others-returns : goal.conditions::others-returns
conditions::others-returns t c =
    (others_end c.args.separator c.args.room (terminals_of c.args.symbols.now) (expr_trees c.loop-after.list.items) c.loop-after.highest (terminals_of c.loop-after.rest.now) c.loop-after.invariant c.in_default.ensures, c.loop-after.invariant.is_highest, c.loop-after.invariant.low)

pub arithmetic::chain-returns-in_err-right : goal.arithmetic::chain-returns-in_err-right
arithmetic::chain-returns-in_err-right t c =
    let p = err_from_is_err_and c.from_residual-in_err-right.result c.from_residual-in_err-right.ensures.1 in
    chain_failed c.args.level c.args.room (terminals_of c.args.symbols.now) (expr_tree c.loop-op.found.expr) c.loop-op.found.height (terminals_of c.loop-op.found.rest.now) c.in-Some.op (terminals_of c.in-Some.after.now) c.in_err-right.field-0.0 c.from_residual-in_err-right.result
    c.loop-op.invariant c.in-Some.ensures c.in_err-right.ensures (cc)

pub arithmetic::chain-returns : goal.arithmetic::chain-returns
arithmetic::chain-returns t c =
    (chain_end c.args.level c.args.room (terminals_of c.args.symbols.now) (expr_tree c.loop-op.found.expr) c.loop-op.found.height (terminals_of c.loop-op.found.rest.now) c.loop-op.invariant c.in_default.ensures, c.loop-op.invariant.is_height, c.loop-op.invariant.low)

pub operands::signed_here-returns-in-None : goal.operands::signed_here-returns-in-None
operands::signed_here-returns-in-None t c = rw (signed_plain (below (c.args.room - 1)) (terminals_of c.args.symbols.now) c.in-None.ensures) c.primary.ensures

pub operands::signed_here-returns-in-Some : goal.operands::signed_here-returns-in-Some
operands::signed_here-returns-in-Some t c = rw (signed_minus (below (c.args.room - 1)) (terminals_of c.args.symbols.now) (terminals_of c.in-Some.rest.now) c.in-Some.ensures) c.minus.ensures

pub operands::call_of_parts-call_made-requires-clause-low : goal.operands::call_of_parts-call_made-requires-clause-low
operands::call_of_parts-call_made-requires-clause-low t c =
    (omega (arith, c.requires.1.1.0, c.in_ok-first.ensures.2), parts_low c.args.room c.in_ok-others.others.highest (terminals_of c.in_ok-first.first.rest.now) (expr_trees c.in_ok-others.others.list.items) (terminals_of c.in_ok-others.others.rest.now) c.requires.1.1.0 c.in_ok-others.ensures.0 c.in_ok-others.ensures.1)

pub arithmetic::chain-returns-in_err-found-2 : goal.arithmetic::chain-returns-in_err-found-2
arithmetic::chain-returns-in_err-found-2 t c =
    let p = err_from_is_err_and c.from_residual-in_err-found-2.result c.from_residual-in_err-found-2.ensures.1 in
    chain_failed_high c.args.level c.args.room (terminals_of c.args.symbols.now) (expr_tree c.loop-op.found.expr) c.loop-op.found.height (terminals_of c.loop-op.found.rest.now) c.in-Some.op (terminals_of c.in-Some.after.now) (expr_tree c.in_ok-right.right.expr) (terminals_of c.in_ok-right.right.rest.now) (binary c.in-Some.op (expr_tree c.in_ok-left.left.value) (expr_tree c.in_ok-right.right.expr)) c.in_err-found-2.field-0.0 c.from_residual-in_err-found-2.result
    c.loop-op.invariant c.in-Some.ensures (c.in_ok-right.ensures).0 (ap (λ (y : Expr). binary c.in-Some.op (expr_tree y) (expr_tree c.in_ok-right.right.expr)) c.in_ok-left.ensures.ok) c.in_err-found-2.ensures (cc)

pub arithmetic::operand-returns-in-Sum : goal.arithmetic::operand-returns-in-Sum
arithmetic::operand-returns-in-Sum t c =
    subst (λ (y : Read). Answers c.args.room c.chain.result y) (sym (operand_sum c.args.level (below (c.args.room - 1)) c.args.room (terminals_of c.args.symbols.now) (cc))) c.chain.ensures
