use Rattle.std.proofs.Common.{◌≡◌, ◌++◌, map, drop}
use Rattle.bind_names.specs.Scope.{table_shape, visible, entry_shape}
use Rattle.bind_names.specs.Seen.{seen_entry}
use Rattle.bind_names.proofs.from.scope_of.Given as goal

abbrev pub invariant-loop-entry : goal.invariant-loop-entry
invariant-loop-entry l =
    map visible l.out.items ++ map (entry_shape (map table_shape l.tables)) (map seen_entry (drop l.entry-index l.entries)) ≡ map (entry_shape (map table_shape l.tables)) (map seen_entry l.entries)
