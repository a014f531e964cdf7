use Rattle.std.proofs.Common.{◌<◌, ◌++◌, ◌∷◌, [], ◌∙◌, sym, length, map, flat_map, ap, arith}
use Rattle.std.proofs.lemmas.Result.{err_from_is_err_and}
use Rattle.med_syntax.specs.QueryView.{key_tree}
use Rattle.bind_names.specs.Prelude.{place_name_causes, key_place}
use Rattle.bind_query.specs.Shown.{output_of}
use Rattle.bind_names.proofs.Causes.{tells_first, next_causes}
use Rattle.bind_names.proofs.Added.{added_after}
use Rattle.bind_names.proofs.Parts.{drop_read}
use Rattle.bind_query.proofs.keys.output_places.Goals as goal

pub returns-in_err-found : goal.returns-in_err-found
returns-in_err-found c =
    let f = place_name_causes (map output_of c.args.outputs.now) in
    let lt : c.loop-written.written-index < length c.args.keys.now = omega arith in
    let at = drop_read c.args.keys.now c.loop-written.written-index c.written-item.result lt c.written-item.is in
    let p = err_from_is_err_and c.from_residual.result c.from_residual.ensures.1 in
    rw (p.1, p.2) (tells_first _ (f (key_tree c.written-item.result)) _ _ (c.loop-written.invariant.causes ∙ ap (λ xs. flat_map f (map key_tree xs)) at) c.in_err-found.ensures)

pub loop-written-preserved : goal.loop-written-preserved
loop-written-preserved c =
    let f = place_name_causes (map output_of c.args.outputs.now) in
    let g = key_place (map output_of c.args.outputs.now) in
    let lt : c.loop-written.written-index < length c.args.keys.now = omega arith in
    let at = drop_read c.args.keys.now c.loop-written.written-index c.written-item.result lt c.written-item.is in
    record {
      causes = next_causes _ (f (key_tree c.written-item.result)) _ (c.loop-written.invariant.causes ∙ ap (λ xs. flat_map f (map key_tree xs)) at) c.in_ok-found.ensures.1;
      places = added_after _ c.loop-written.out.items _ (g (key_tree c.written-item.result) ∷ []) _
          (ap (λ xs. c.loop-written.out.items ++ map g (map key_tree xs)) (sym at) ∙ c.loop-written.invariant.places)
          (c.in_ok-push.ensures.items ∙ ap (λ x. c.loop-written.out.items ++ x ∷ []) c.in_ok-found.ensures.0);
    }
