use Rattle.std.proofs.Common.{◌≡◌, ◌+◌, ◌<◌, ◌++◌, [], ◌∷◌, map, length, drop, sym, ◌∙◌, ap, arith}
use Rattle.std.proofs.lemmas.List.{map-append, drop_all}
use Rattle.std.proofs.lemmas.Result.{err_from_is_err_and}
use Rattle.med_syntax.specs.ExprView.{expr_tree, expr_trees}
use Rattle.tri_expr.specs.Tree.{tree}
use Rattle.bind_names.specs.Prelude.{scope_of, name_causes, name_causes_of_all, resolved, resolved_all}
use Rattle.bind_names.proofs.Causes.{tells_first, next_causes}
use Rattle.bind_query.proofs.Trees.{trees_then, next_part, all_parts}
use Rattle.bind_names.proofs.Parts.{trees_at, no_higher}
use Rattle.bind_query.proofs.resolve.+resolve.Goals as goal

pub listed-returns-in_err-part : goal.listed-returns-in_err-part
listed-returns-in_err-part t c =
    let s = scope_of c.args.scope.now in
    let lt : c.loop-other.other-index < length c.args.others.now = omega arith in
    let at = trees_at c.args.others.now c.loop-other.other-index c.other-item.result lt c.other-item.is in
    let p = err_from_is_err_and c.from_residual-in_err-part.result c.from_residual-in_err-part.ensures.1 in
    rw (p.1, p.2) (tells_first _ (name_causes s (expr_tree c.other-item.result)) _ _ (c.loop-other.invariant.causes ∙ ap (name_causes_of_all s) at) c.in_err-part.ensures)

pub listed-loop-other-preserved : goal.listed-loop-other-preserved
listed-loop-other-preserved t c =
    let s = scope_of c.args.scope.now in
    let lt : c.loop-other.other-index < length c.args.others.now = omega arith in
    let at = trees_at c.args.others.now c.loop-other.other-index c.other-item.result lt c.other-item.is in
    let us = resolved_all s (expr_trees (drop (c.loop-other.other-index + 1) c.args.others.now)) in
    let grown : map tree c.push-in-loop-other.new.self.items ≡ map tree c.loop-other.parts.items ++ tree c.in_ok-part.part ∷ [] = ap (λ xs. map tree xs) c.in_ok-push-2.ensures.items ∙ map-append tree c.loop-other.parts.items (c.in_ok-part.part ∷ []) in
    record {
      causes = next_causes _ (name_causes s (expr_tree c.other-item.result)) _ (c.loop-other.invariant.causes ∙ ap (name_causes_of_all s) at) c.in_ok-part.ensures.1;
      parts = ap (λ ts. trees_then ts us) grown ∙ next_part (map tree c.loop-other.parts.items) (tree c.in_ok-part.part) (resolved s (expr_tree c.other-item.result)) us _
          (ap (λ es. trees_then (map tree c.loop-other.parts.items) (resolved_all s es)) (sym at) ∙ c.loop-other.invariant.parts) c.in_ok-part.ensures.0;
      low = no_higher c.args.others.now c.loop-other.other-index c.other-item.result lt c.other-item.is c.loop-other.invariant.low;
    }

pub listed-returns : goal.listed-returns
listed-returns t c =
    let s = scope_of c.args.scope.now in
    let past = drop_all c.loop-other.other-index c.args.others.now (omega arith) in (
      all_parts (map tree c.loop-other.parts.items) _ (ap (λ xs. trees_then (map tree c.loop-other.parts.items) (resolved_all s (expr_trees xs))) (sym past) ∙ c.loop-other.invariant.parts),
      c.loop-other.invariant.causes ∙ ap (λ xs. name_causes_of_all s (expr_trees xs)) past,
    )

pub arguments-returns-in_err-part : goal.arguments-returns-in_err-part
arguments-returns-in_err-part t c =
    let s = scope_of c.args.scope.now in
    let lt : c.loop-e.e-index < length c.args.written.now = omega arith in
    let at = trees_at c.args.written.now c.loop-e.e-index c.e-item.result lt c.e-item.is in
    let p = err_from_is_err_and c.from_residual.result c.from_residual.ensures.1 in
    rw (p.1, p.2) (tells_first _ (name_causes s (expr_tree c.e-item.result)) _ _ (c.loop-e.invariant.causes ∙ ap (name_causes_of_all s) at) c.in_err-part.ensures)

pub arguments-loop-e-preserved : goal.arguments-loop-e-preserved
arguments-loop-e-preserved t c =
    let s = scope_of c.args.scope.now in
    let lt : c.loop-e.e-index < length c.args.written.now = omega arith in
    let at = trees_at c.args.written.now c.loop-e.e-index c.e-item.result lt c.e-item.is in
    let us = resolved_all s (expr_trees (drop (c.loop-e.e-index + 1) c.args.written.now)) in
    let grown : map tree c.push.new.self.items ≡ map tree c.loop-e.parts.items ++ tree c.in_ok-part.part ∷ [] = ap (λ xs. map tree xs) c.in_ok-push.ensures.items ∙ map-append tree c.loop-e.parts.items (c.in_ok-part.part ∷ []) in
    record {
      causes = next_causes _ (name_causes s (expr_tree c.e-item.result)) _ (c.loop-e.invariant.causes ∙ ap (name_causes_of_all s) at) c.in_ok-part.ensures.1;
      parts = ap (λ ts. trees_then ts us) grown ∙ next_part (map tree c.loop-e.parts.items) (tree c.in_ok-part.part) (resolved s (expr_tree c.e-item.result)) us _
          (ap (λ es. trees_then (map tree c.loop-e.parts.items) (resolved_all s es)) (sym at) ∙ c.loop-e.invariant.parts) c.in_ok-part.ensures.0;
      low = no_higher c.args.written.now c.loop-e.e-index c.e-item.result lt c.e-item.is c.loop-e.invariant.low;
    }

pub arguments-returns : goal.arguments-returns
arguments-returns t c =
    let s = scope_of c.args.scope.now in
    let past = drop_all c.loop-e.e-index c.args.written.now (omega arith) in (
      all_parts (map tree c.loop-e.parts.items) _ (ap (λ xs. trees_then (map tree c.loop-e.parts.items) (resolved_all s (expr_trees xs))) (sym past) ∙ c.loop-e.invariant.parts),
      c.loop-e.invariant.causes ∙ ap (λ xs. name_causes_of_all s (expr_trees xs)) past,
    )
