use Rattle.std.proofs.Common.{◌<◌, ◌∷◌, [], ◌∙◌, List, Some, length, map, flat_map, ap, sym, subst, arith}
use Rattle.std.proofs.lemmas.List.{map-append}
use Rattle.std.proofs.lemmas.Result.{err_from_is_err_and}
use Rattle.med_syntax.specs.QueryTree.{EntryTree}
use Rattle.bind_names.specs.Prelude.{table_shape, entry_place, entry_columns, entry_causes, seen_entry}
use Rattle.bind_names.specs.declared.table.TableView.{TableView}
use Rattle.bind_names.proofs.Causes.{tells_first, next_causes}
use Rattle.bind_names.proofs.Parts.{drop_read}
use Rattle.med_binder.specs.declared.bound.BoundEntry.{BoundEntry}
use Rattle.med_binder.specs.Place as offered
use Rattle.med_catalog.specs.View.{objects}
use Rattle.med_binder.specs.Tables.{shapes}
use Rattle.med_binder.specs.Places.{attached, ArePlaces}
use Rattle.med_binder.specs.Looked.{gathered_shape, view_place, place_bound}
use Rattle.med_binder.proofs.Rows.{mapped_next, places_more}
use Rattle.med_binder.proofs.gathering.gathered.Goals as goal

pub returns-in_err-found-clause-tables : goal.returns-in_err-found-clause-tables
returns-in_err-found-clause-tables c =
    let f = entry_causes (shapes (objects c.args.catalog.now)) in
    let lt : c.loop-entry.entry-index < length c.args.written.now = omega arith in
    let at = drop_read c.args.written.now c.loop-entry.entry-index c.entry-item.result lt c.entry-item.is in
    let p = err_from_is_err_and c.from_residual.result c.from_residual.ensures.1 in
    rw (p.1, p.2) (tells_first _ (f (seen_entry c.entry-item.result)) _ _ (c.loop-entry.invariant.causes ∙ ap (λ xs. flat_map f (map seen_entry xs)) at) c.in_err-found.ensures.table)

pub loop-entry-preserved : goal.loop-entry-preserved
loop-entry-preserved c =
    let o = objects c.args.catalog.now in
    let f = entry_causes (shapes o) in
    let lt : c.loop-entry.entry-index < length c.args.written.now = omega arith in
    let at = drop_read c.args.written.now c.loop-entry.entry-index c.entry-item.result lt c.entry-item.is in
    let es = ap (map seen_entry) at in
    let found = c.in_ok-found.ensures in
    let tables = c.in_ok-push.ensures.items in
    let entries = c.in_ok-push-2.ensures.items in
    let before = c.loop-entry.entries.items in
    record {
      causes = next_causes _ (f (seen_entry c.entry-item.result)) _ (c.loop-entry.invariant.causes ∙ ap (flat_map f) es) found.table.1;
      gathered = mapped_next table_shape (gathered_shape (shapes o)) _ _ _ _ _ _ _ tables es found.table.0 c.loop-entry.invariant.gathered;
      bound = mapped_next (λ (t : TableView). Some (view_place t)) (place_bound o (map attached c.args.bound.now)) _ _ _ _ _ _ _ tables es found.place c.loop-entry.invariant.bound;
      places = mapped_next (λ (b : BoundEntry). b.place) (entry_place (shapes o)) _ _ _ _ _ _ _ entries es found.entry.place c.loop-entry.invariant.places;
      widths = mapped_next (λ (b : BoundEntry). b.width) (λ (e : EntryTree). length (entry_columns (shapes o) e)) _ _ _ _ _ _ _ entries es found.entry.width c.loop-entry.invariant.widths;
      there = subst (λ (xs : List BoundEntry). ArePlaces (map attached c.args.bound.now) (map (λ (b : BoundEntry). b.place) xs) (map offered.entry_place xs)) (sym entries)
          (rw (map-append (λ (b : BoundEntry). b.place) before (c.in_ok-found.found.entry ∷ []), map-append offered.entry_place before (c.in_ok-found.found.entry ∷ []))
          (places_more (map attached c.args.bound.now) (map (λ (b : BoundEntry). b.place) before) (map offered.entry_place before) c.in_ok-found.found.entry.place (offered.entry_place c.in_ok-found.found.entry)
          c.loop-entry.invariant.there found.entry.there));
    }
