use Rattle.std.proofs.Common.{◌≡◌, map, drop, flat_map}
use Rattle.med_syntax.specs.QueryTree.{EntryTree}
use Rattle.bind_names.specs.Seen.{seen_entry}
use Rattle.med_catalog.specs.Prelude.{table_named, objects}
use Rattle.med_binder.specs.Barred.{table_causes, reading_causes}
use Rattle.med_binder.proofs.rights.check_rights.Given as goal

abbrev pub invariant-loop-entry : goal.invariant-loop-entry
invariant-loop-entry l =
    let f = λ (e : EntryTree). table_causes reading_causes (objects l.catalog) l.user (table_named (objects l.catalog) e.table) in
    flat_map f (map seen_entry l.entries) ≡ flat_map f (map seen_entry (drop l.entry-index l.entries))
