use Rattle.std.proofs.Common.{◌+◌, ◌<◌, ◌++◌, [], ◌∷◌, length, drop, ◌∙◌, ap, arith, string_bytes}
use Rattle.std.proofs.lemmas.List.{drop_all}
use Rattle.std.proofs.lemmas.Result.{err_from_is_err_and}
use Rattle.med_syntax.specs.ExprView.{expr_tree, expr_trees}
use Rattle.bind_names.specs.Prelude.{scope_of, function_named}
use Rattle.bind_types.specs.Typing.{type_of, types_of, comparing, as_condition, as_text, type_causes, type_causes_of_all, condition_causes}
use Rattle.bind_names.proofs.Causes.{tells_left, tells_right, tells_one, tells_first, next_causes, none_of_two}
use Rattle.bind_names.proofs.Parts.{trees_at, no_higher}
use Rattle.bind_types.proofs.Calls.{tells_several}
use Rattle.bind_types.proofs.Types.{comparing_one, list_step}
use Rattle.bind_types.proofs.typing.+check.Goals as goal

pub liked-returns-in_err-operand : goal.liked-returns-in_err-operand
liked-returns-in_err-operand t c =
    let s = scope_of c.args.scope.now in
    let e = expr_tree c.args.e.now in
    let p = err_from_is_err_and c.from_residual.result c.from_residual.ensures.1 in
    rw (p.1, p.2) (tells_left (type_causes s e ++ as_text (type_of s e)) _ _ c.in_err-operand.ensures)

pub conditions-returns-in_err-operand : goal.conditions-returns-in_err-operand
conditions-returns-in_err-operand t c =
    let s = scope_of c.args.scope.now in
    let e = expr_tree c.other-item.result in
    let lt : c.loop-other.other-index < length c.args.others.now = omega arith in
    let at = trees_at c.args.others.now c.loop-other.other-index c.other-item.result lt c.other-item.is in
    let p = err_from_is_err_and c.from_residual.result c.from_residual.ensures.1 in
    rw (p.1, p.2) (tells_first _ (type_causes s e ++ as_condition (type_of s e)) _ _ (c.loop-other.invariant.causes ∙ ap (condition_causes s) at) c.in_err-operand.ensures)

pub listed-returns-in_err-one : goal.listed-returns-in_err-one
listed-returns-in_err-one t c =
    let s = scope_of c.args.scope.now in
    let e = expr_tree c.other-item.result in
    let lt : c.loop-other.other-index < length c.args.others.now = omega arith in
    let at = trees_at c.args.others.now c.loop-other.other-index c.other-item.result lt c.other-item.is in
    let p = err_from_is_err_and c.from_residual.result c.from_residual.ensures.1 in
    rw (p.1, p.2) (tells_left _ _ _ (tells_first _ (type_causes s e) _ _ (c.loop-other.invariant.causes ∙ ap (type_causes_of_all s) at) c.in_err-one.ensures))

pub listed-returns-in_err-all : goal.listed-returns-in_err-all
listed-returns-in_err-all t c =
    let s = scope_of c.args.scope.now in
    let e = expr_tree c.other-item.result in
    let lt : c.loop-other.other-index < length c.args.others.now = omega arith in
    let at = trees_at c.args.others.now c.loop-other.other-index c.other-item.result lt c.other-item.is in
    let rest = types_of s (expr_trees (drop (c.loop-other.other-index + 1) c.args.others.now)) in
    let p = err_from_is_err_and c.from_residual-in_err-all.result c.from_residual-in_err-all.ensures.1 in
    rw (p.1, p.2) (tells_right _ _ _ (tells_one _ _ (list_step _ c.loop-other.all c.in_ok-one.one (type_of s e) rest _
    (c.loop-other.invariant.types ∙ ap (λ es. comparing (c.loop-other.all ∷ types_of s es)) at) c.in_ok-one.ensures.0 (c.in_err-all.ensures rest))))

pub listed-loop-other-preserved : goal.listed-loop-other-preserved
listed-loop-other-preserved t c =
    let s = scope_of c.args.scope.now in
    let e = expr_tree c.other-item.result in
    let lt : c.loop-other.other-index < length c.args.others.now = omega arith in
    let at = trees_at c.args.others.now c.loop-other.other-index c.other-item.result lt c.other-item.is in
    let rest = types_of s (expr_trees (drop (c.loop-other.other-index + 1) c.args.others.now)) in
    record {
      causes = next_causes _ (type_causes s e) _ (c.loop-other.invariant.causes ∙ ap (type_causes_of_all s) at) c.in_ok-one.ensures.1;
      types = list_step _ c.loop-other.all c.in_ok-one.one (type_of s e) rest _
          (c.loop-other.invariant.types ∙ ap (λ es. comparing (c.loop-other.all ∷ types_of s es)) at) c.in_ok-one.ensures.0 (c.in_ok-all.ensures rest);
      low = no_higher c.args.others.now c.loop-other.other-index c.other-item.result lt c.other-item.is c.loop-other.invariant.low;
    }

pub listed-returns : goal.listed-returns
listed-returns t c =
    let s = scope_of c.args.scope.now in
    let past = drop_all c.loop-other.other-index c.args.others.now (omega arith) in
    none_of_two _ _ (c.loop-other.invariant.causes ∙ ap (λ xs. type_causes_of_all s (expr_trees xs)) past)
    (c.loop-other.invariant.types ∙ ap (λ xs. comparing (c.loop-other.all ∷ types_of s (expr_trees xs))) past ∙ comparing_one c.loop-other.all)

pub called-returns-in_default-2 : goal.called-returns-in_default-2
called-returns-in_default-2 t c =
    tells_several (scope_of c.args.scope.now) (function_named (string_bytes c.args.name.now)) c.args.arguments.now (omega arith)

pub called_with-returns-in_err-argument : goal.called_with-returns-in_err-argument
called_with-returns-in_err-argument t c =
    let s = scope_of c.args.scope.now in
    let e = expr_tree c.args.argument.now in
    let p = err_from_is_err_and c.from_residual.result c.from_residual.ensures.1 in
    rw (p.1, p.2) (tells_left (type_causes s e ++ []) _ _ (tells_left (type_causes s e) [] _ c.in_err-argument.ensures))
