use Rattle.std.proofs.Common.{◌≡◌, ◌++◌, map, drop, flat_map, All}
use Rattle.bind_names.specs.Prelude.{table_shape, entry_place, entry_causes, seen_entry}
use Rattle.med_binder.specs.Binding.{IsEntryOf}
use Rattle.med_binder.specs.declared.bound.BoundEntry.{BoundEntry}
use Rattle.med_binder.proofs.entries.bound_entries.Given as goal

abbrev pub invariant-loop-entry : goal.invariant-loop-entry
invariant-loop-entry l = record {
  causes : flat_map (entry_causes (map table_shape l.tables)) (map seen_entry l.entries) ≡ flat_map (entry_causes (map table_shape l.tables)) (map seen_entry (drop l.entry-index l.entries));
  places : map (λ (e : BoundEntry). e.place) l.out.items ++ map (entry_place (map table_shape l.tables)) (map seen_entry (drop l.entry-index l.entries)) ≡ map (entry_place (map table_shape l.tables)) (map seen_entry l.entries);
  each : All (IsEntryOf l.tables) l.out.items;
}
