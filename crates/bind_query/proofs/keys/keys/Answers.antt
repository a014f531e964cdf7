use Rattle.std.proofs.Common.{◌<◌, ◌++◌, ◌∷◌, [], ◌∙◌, sym, length, map, flat_map, ap, arith}
use Rattle.std.proofs.lemmas.List.{map-append}
use Rattle.std.proofs.lemmas.Result.{err_from_is_err_and}
use Rattle.med_syntax.specs.QueryView.{key_tree}
use Rattle.tri_expr.specs.Tree.{tree}
use Rattle.bind_names.specs.Prelude.{scope_of, key_name_causes, key_meant}
use Rattle.bind_query.specs.Shown.{output_of}
use Rattle.bind_names.proofs.Causes.{tells_first, next_causes}
use Rattle.bind_names.proofs.Added.{added_after}
use Rattle.bind_names.proofs.Parts.{drop_read}
use Rattle.bind_query.proofs.keys.keys.Goals as goal

pub returns-in_err-value : goal.returns-in_err-value
returns-in_err-value c =
    let f = key_name_causes (scope_of c.args.scope.now) c.args.distinct (map output_of c.args.outputs.now) in
    let lt : c.loop-written.written-index < length c.args.keys.now = omega arith in
    let at = drop_read c.args.keys.now c.loop-written.written-index c.written-item.result lt c.written-item.is in
    let p = err_from_is_err_and c.from_residual.result c.from_residual.ensures.1 in
    rw (p.1, p.2) (tells_first _ (f (key_tree c.written-item.result)) _ _ (c.loop-written.invariant.causes ∙ ap (λ xs. flat_map f (map key_tree xs)) at) c.in_err-value.ensures)

pub loop-written-preserved : goal.loop-written-preserved
loop-written-preserved c =
    let f = key_name_causes (scope_of c.args.scope.now) c.args.distinct (map output_of c.args.outputs.now) in
    let g = key_meant (scope_of c.args.scope.now) (map output_of c.args.outputs.now) in
    let lt : c.loop-written.written-index < length c.args.keys.now = omega arith in
    let at = drop_read c.args.keys.now c.loop-written.written-index c.written-item.result lt c.written-item.is in
    record {
      causes = next_causes _ (f (key_tree c.written-item.result)) _ (c.loop-written.invariant.causes ∙ ap (λ xs. flat_map f (map key_tree xs)) at) c.in_ok-value.ensures.1;
      keys = added_after _ (map tree c.loop-written.out.items) _ (g (key_tree c.written-item.result) ∷ []) _
          (ap (λ xs. map tree c.loop-written.out.items ++ map g (map key_tree xs)) (sym at) ∙ c.loop-written.invariant.keys)
          (ap (λ xs. map tree xs) c.in_ok-push.ensures.items ∙ map-append tree c.loop-written.out.items _ ∙ ap (λ x. map tree c.loop-written.out.items ++ x ∷ []) c.in_ok-value.ensures.0);
    }
