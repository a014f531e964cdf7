use Rattle.std.proofs.Common.{◌≡◌, ◌++◌, map, drop, string_bytes}
use Rattle.med_syntax.specs.QueryTree.{EntryTree}
use Rattle.bind_names.specs.Seen.{seen_entry}
use Rattle.med_statements.proofs.leasing.tables_of.Given as goal

abbrev pub invariant-loop-entry : goal.invariant-loop-entry
invariant-loop-entry l =
    map string_bytes l.names.items ++ map (λ (e : EntryTree). e.table) (map seen_entry (drop l.entry-index l.entries)) ≡ map (λ (e : EntryTree). e.table) (map seen_entry l.entries)
