use Rattle.std.proofs.Common.{◌<◌, ◌++◌, ◌∷◌, [], ◌∙◌, sym, length, map, flat_map, ap, arith}
use Rattle.std.proofs.lemmas.Result.{err_from_is_err_and}
use Rattle.med_syntax.specs.QueryView.{group_tree}
use Rattle.bind_names.specs.Prelude.{scope_of, group_name_causes, group_place}
use Rattle.bind_names.proofs.Causes.{tells_first, next_causes}
use Rattle.bind_names.proofs.Added.{added_after}
use Rattle.bind_query.proofs.KeySteps.{place_found}
use Rattle.bind_names.proofs.Parts.{drop_read}
use Rattle.bind_query.proofs.keys.places.Goals as goal

pub returns-in_err-place : goal.returns-in_err-place
returns-in_err-place c =
    let f = group_name_causes (scope_of c.args.scope.now) in
    let lt : c.loop-group.group-index < length c.args.groups.now = omega arith in
    let at = drop_read c.args.groups.now c.loop-group.group-index c.group-item.result lt c.group-item.is in
    let p = err_from_is_err_and c.from_residual.result c.from_residual.ensures.1 in
    rw (p.1, p.2) (tells_first _ (f (group_tree c.group-item.result)) _ _ (c.loop-group.invariant.causes ∙ ap (λ xs. flat_map f (map group_tree xs)) at) c.in_err-place.ensures.finds)

pub loop-group-preserved : goal.loop-group-preserved
loop-group-preserved c =
    let f = group_name_causes (scope_of c.args.scope.now) in
    let g = group_place (scope_of c.args.scope.now) in
    let lt : c.loop-group.group-index < length c.args.groups.now = omega arith in
    let at = drop_read c.args.groups.now c.loop-group.group-index c.group-item.result lt c.group-item.is in
    record {
      causes = next_causes _ (f (group_tree c.group-item.result)) _ (c.loop-group.invariant.causes ∙ ap (λ xs. flat_map f (map group_tree xs)) at) c.in_ok-place.ensures.finds.1;
      places = added_after _ c.loop-group.out.items _ (g (group_tree c.group-item.result) ∷ []) _
          (ap (λ xs. c.loop-group.out.items ++ map g (map group_tree xs)) (sym at) ∙ c.loop-group.invariant.places)
          (c.in_ok-push.ensures.items ∙ ap (λ p. c.loop-group.out.items ++ p ∷ []) (place_found _ c.in_ok-place.place c.in_ok-place.ensures.finds.0));
    }
