use Rattle.std.proofs.Common.{◌≡◌, ◌++◌, Some, length, map, drop, flat_map}
use Rattle.med_syntax.specs.QueryTree.{EntryTree}
use Rattle.bind_names.specs.Prelude.{table_shape, entry_place, entry_columns, entry_causes, seen_entry}
use Rattle.bind_names.specs.declared.table.TableView.{TableView}
use Rattle.med_binder.specs.declared.bound.BoundEntry.{BoundEntry}
use Rattle.med_binder.specs.Place as offered
use Rattle.med_catalog.specs.View.{objects}
use Rattle.med_binder.specs.Tables.{shapes}
use Rattle.med_binder.specs.Places.{attached, ArePlaces}
use Rattle.med_binder.specs.Looked.{gathered_shape, view_place, place_bound}
use Rattle.med_binder.proofs.gathering.gathered.Given as goal

abbrev pub invariant-loop-entry : goal.invariant-loop-entry
invariant-loop-entry l =
    let o = objects l.catalog in
    let es = map seen_entry l.written in
    let rest = map seen_entry (drop l.entry-index l.written) in
    record {
      causes : flat_map (entry_causes (shapes o)) es ≡ flat_map (entry_causes (shapes o)) rest;
      gathered : map table_shape l.tables.items ++ map (gathered_shape (shapes o)) rest ≡ map (gathered_shape (shapes o)) es;
      bound : map (λ (t : TableView). Some (view_place t)) l.tables.items ++ map (place_bound o (map attached l.bound)) rest ≡ map (place_bound o (map attached l.bound)) es;
      places : map (λ (b : BoundEntry). b.place) l.entries.items ++ map (entry_place (shapes o)) rest ≡ map (entry_place (shapes o)) es;
      widths : map (λ (b : BoundEntry). b.width) l.entries.items ++ map (λ (e : EntryTree). length (entry_columns (shapes o) e)) rest ≡ map (λ (e : EntryTree). length (entry_columns (shapes o) e)) es;
      there : ArePlaces (map attached l.bound) (map (λ (b : BoundEntry). b.place) l.entries.items) (map offered.entry_place l.entries.items);
    }
