use Rattle.std.proofs.Common.{◌<◌, ◌++◌, ◌∷◌, [], ◌∙◌, sym, length, map, flat_map, ap, subst, All, arith}
use Rattle.std.proofs.lemmas.List.{map-append}
use Rattle.std.proofs.lemmas.Result.{err_from_is_err_and}
use Rattle.bind_names.specs.Prelude.{table_shape, entry_place, entry_causes, seen_entry}
use Rattle.med_binder.specs.Binding.{IsEntryOf}
use Rattle.med_binder.specs.declared.bound.BoundEntry.{BoundEntry}
use Rattle.bind_names.proofs.Causes.{tells_first, next_causes}
use Rattle.bind_names.proofs.Added.{added_after}
use Rattle.bind_names.proofs.Parts.{drop_read}
use Rattle.med_binder.proofs.EntrySteps.{all_and}
use Rattle.med_binder.proofs.entries.bound_entries.Goals as goal

pub returns-in_err-bound : goal.returns-in_err-bound
returns-in_err-bound c =
    let f = entry_causes (map table_shape c.args.tables.now) in
    let lt : c.loop-entry.entry-index < length c.args.entries.now = omega arith in
    let at = drop_read c.args.entries.now c.loop-entry.entry-index c.entry-item.result lt c.entry-item.is in
    let p = err_from_is_err_and c.from_residual.result c.from_residual.ensures.1 in
    rw (p.1, p.2) (tells_first _ (f (seen_entry c.entry-item.result)) _ _ (c.loop-entry.invariant.causes ∙ ap (λ xs. flat_map f (map seen_entry xs)) at) c.in_err-bound.ensures)

pub loop-entry-preserved : goal.loop-entry-preserved
loop-entry-preserved c =
    let f = entry_causes (map table_shape c.args.tables.now) in
    let g = entry_place (map table_shape c.args.tables.now) in
    let lt : c.loop-entry.entry-index < length c.args.entries.now = omega arith in
    let at = drop_read c.args.entries.now c.loop-entry.entry-index c.entry-item.result lt c.entry-item.is in
    record {
      causes = next_causes _ (f (seen_entry c.entry-item.result)) _ (c.loop-entry.invariant.causes ∙ ap (λ xs. flat_map f (map seen_entry xs)) at) c.in_ok-bound.ensures.2;
      places = added_after _ (map (λ (e : BoundEntry). e.place) c.loop-entry.out.items) _ (g (seen_entry c.entry-item.result) ∷ []) _
          (ap (λ xs. map (λ (e : BoundEntry). e.place) c.loop-entry.out.items ++ map g (map seen_entry xs)) (sym at) ∙ c.loop-entry.invariant.places)
          (ap (λ xs. map (λ (e : BoundEntry). e.place) xs) c.in_ok-push.ensures.items ∙ map-append (λ (e : BoundEntry). e.place) c.loop-entry.out.items _
          ∙ ap (λ x. map (λ (e : BoundEntry). e.place) c.loop-entry.out.items ++ x ∷ []) c.in_ok-bound.ensures.1);
      each = subst (λ xs. All (IsEntryOf c.args.tables.now) xs) (sym c.in_ok-push.ensures.items) (all_and c.args.tables.now c.loop-entry.out.items c.in_ok-bound.bound c.loop-entry.invariant.each c.in_ok-bound.ensures.0);
    }
