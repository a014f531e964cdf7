-- Entries of FROM and tables, as the functions of the crate see them.
use Rattle.std.specs.Prelude.{◌≡◌, List, [], map, slice_get, Option, Some, None, Result}
use Rattle.std.specs.Borrow.{Bor}
use Rattle.med_value.specs.declared.cause.Cause.{Cause}
use Rattle.med_syntax.specs.Prelude.{Name, EntryTree, entry_tree}
use Rattle.med_syntax.specs.declared.statement.Entry.{Entry}
use Rattle.bind_names.specs.Scope.{table_shape, place_named}
use Rattle.bind_names.specs.declared.table.TableView.{TableView}
use Rattle.bind_names.specs.declared.scope.Visible.{Visible}
use Rattle.bind_names.specs.declared.from.Located.{Located}
use Rattle.bind_names.specs.Telling.{Adds}

-- an entry of FROM, and an entry in view by its name
abbrev pub seen_entry : Bor Entry → EntryTree
seen_entry e = entry_tree e.now

-- these entries stand behind those that were there
abbrev pub AddsEntries : List EntryTree → List (Bor Entry) → List (Bor Entry) → Result Unit Cause → Type 0
AddsEntries more old new = Adds [] more (map seen_entry old) (map seen_entry new)

abbrev pub name_of : Visible → Name
name_of v = v.name.now

-- the first table of this name, and where it stands
abbrev pub FindsTable : List TableView → Name → Option Located → Type 0
FindsTable tables name None = place_named (map table_shape tables) name ≡ None
FindsTable tables name (Some r) = (place_named (map table_shape tables) name ≡ Some r.place) × (slice_get tables r.place ≡ Some r.table.now)
