use Rattle.std.proofs.Common.{◌∙◌, map, ap, sym, refl}
use Rattle.med_syntax.specs.QueryView.{entry_tree}
use Rattle.bind_names.specs.Scope.{table_shape, place_named}
use Rattle.med_binder.proofs.EntrySteps.{entry_placed, entry_known}
use Rattle.med_binder.proofs.entries.bound_entry.Goals as goal

pub returns-in-Some : goal.returns-in-Some
returns-in-Some c =
    let tables = map table_shape c.args.tables.now in
    let e = entry_tree c.args.entry.now in
    let found = sym (ap (place_named tables) c.as_str.ensures.value) ∙ c.in-Some.ensures.0 in (
      record { table = c.in-Some.found.table.now; there = c.in-Some.ensures.1; source = refl; number = refl; width = refl },
      entry_placed tables e c.in-Some.found.place found,
      entry_known tables e c.in-Some.found.place found,
    )
