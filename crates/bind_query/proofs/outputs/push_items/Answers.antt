use Rattle.std.proofs.Common.{◌<◌, ◌++◌, ◌∙◌, sym, length, map, flat_map, ap, arith}
use Rattle.std.proofs.lemmas.Result.{err_from_is_err_and}
use Rattle.med_syntax.specs.QueryView.{item_tree}
use Rattle.bind_names.specs.Prelude.{scope_of, item_name_causes, item_outputs}
use Rattle.bind_query.specs.Shown.{output_of}
use Rattle.bind_names.proofs.Causes.{tells_first, next_causes}
use Rattle.bind_names.proofs.Added.{added_after}
use Rattle.bind_names.proofs.Parts.{drop_read}
use Rattle.bind_query.proofs.outputs.push_items.Goals as goal

pub returns-in_err-push_item : goal.returns-in_err-push_item
returns-in_err-push_item c =
    let f = item_name_causes (scope_of c.args.scope.now) in
    let lt : c.loop-item.item-index < length c.args.items.now = omega arith in
    let at = drop_read c.args.items.now c.loop-item.item-index c.item-item.result lt c.item-item.is in
    let p = err_from_is_err_and c.from_residual.result c.from_residual.ensures.1 in
    rw (p.1, p.2) (tells_first _ (f (item_tree c.item-item.result)) _ _ (c.loop-item.invariant.causes ∙ ap (λ xs. flat_map f (map item_tree xs)) at) c.in_err-push_item.ensures)

pub loop-item-preserved : goal.loop-item-preserved
loop-item-preserved c =
    let f = item_name_causes (scope_of c.args.scope.now) in
    let g = item_outputs (scope_of c.args.scope.now) in
    let lt : c.loop-item.item-index < length c.args.items.now = omega arith in
    let at = drop_read c.args.items.now c.loop-item.item-index c.item-item.result lt c.item-item.is in
    record {
      causes = next_causes _ (f (item_tree c.item-item.result)) _ (c.loop-item.invariant.causes ∙ ap (λ xs. flat_map f (map item_tree xs)) at) c.in_ok-push_item.ensures.1;
      added = added_after _ (map output_of c.loop-item.out.items) _ (g (item_tree c.item-item.result)) _
          (ap (λ xs. map output_of c.loop-item.out.items ++ flat_map g (map item_tree xs)) (sym at) ∙ c.loop-item.invariant.added) c.in_ok-push_item.ensures.0;
    }
