-- What looking up the tables of FROM in a catalogue answers.
use Rattle.std.specs.Prelude.{◌≡◌, ◌⊎◌, List, [], map, flat_map, length, Contains, true, Option, slice_get, Result, Ok, Err}
use Rattle.med_value.specs.declared.cause.Cause.{Cause}
use Rattle.med_value.specs.declared.cause.Cause.TheVariants.{OutOfMemory}
use Rattle.med_syntax.specs.Prelude.{Name, EntryTree, SelectTree, StatementTree, select, select_tree}
use Rattle.med_query.specs.Select.{are_safe_cores}
use Rattle.bind_names.specs.Prelude.{TableShape, table_shape, entry_place, entry_columns, query_entries, query_scope, entry_causes, select_name_causes, TellsCause}
use Rattle.bind_names.specs.declared.table.TableView.{TableView}
use Rattle.bind_types.specs.Typing.{answer_types, select_type_causes}
use Rattle.med_binder.specs.Binding.{IsMeant, bound_kinds}
use Rattle.med_binder.specs.Counted.{bound_widths}
use Rattle.med_binder.specs.Looking.{IsLookedUp}
use Rattle.med_binder.specs.Within.{widths}
use Rattle.med_binder.specs.declared.bound.BoundEntry.{BoundEntry}
use Rattle.med_binder.specs.declared.bound.BoundQuery.{BoundQuery}
use Rattle.med_binder.specs.declared.named.NamedQuery.{NamedQuery}
use Rattle.med_binder.specs.Place as offered
use Rattle.med_catalog.specs.Objects.{Objects}
use Rattle.med_binder.specs.Tables.{shapes}
use Rattle.med_binder.specs.Barred.{query_right_causes}
use Rattle.med_binder.specs.Places.{Attached, IsPlaceOf, ArePlaces}
use Rattle.med_binder.specs.Queries.{meant_by, QueryNames}

-- the query that a statement is
abbrev pub query_in : StatementTree → SelectTree
query_in (select q) = q

-- the table of an entry, under the name by which the entry has it
abbrev pub gathered_shape : List TableShape → EntryTree → TableShape
gathered_shape full e = record { name = e.table; columns = entry_columns full e }

-- where it is bound, and where a view says that its rows are
abbrev pub place_bound : Objects → List Attached → EntryTree → Option Attached
place_bound o bound e = slice_get bound (entry_place (shapes o) e)

abbrev pub view_place : TableView → Attached
view_place t = record { source = t.source; number = t.number.number }

-- the entry's table in the catalogue, with as many columns, and where its rows are
pub record IsEntryAt (o : Objects) (bound : List Attached) (e : EntryTree) (b : BoundEntry) : Type 0 where
  pub place : b.place ≡ entry_place (shapes o) e
  pub width : b.width ≡ length (entry_columns (shapes o) e)
  pub there : IsPlaceOf bound b.place (offered.entry_place b)

-- of each entry
pub record AreEntriesAt (o : Objects) (bound : List Attached) (es : List EntryTree) (bs : List BoundEntry) : Type 0 where
  pub places : map (λ (b : BoundEntry). b.place) bs ≡ map (entry_place (shapes o)) es
  pub widths : map (λ (b : BoundEntry). b.width) bs ≡ map (λ (e : EntryTree). length (entry_columns (shapes o) e)) es
  pub there : ArePlaces bound (map (λ (b : BoundEntry). b.place) bs) (map offered.entry_place bs)

-- ---- names and rights

-- The names of the query are resolved over the tables that its entries name, each taken from the catalogue, and no cause of names or rights
-- stands: the types of what it writes are those over the whole catalogue.
pub record IsNamedOver (o : Objects) (bound : List Attached) (user : Name) (q : SelectTree) (n : NamedQuery) : Type 0 where
  pub written : select_tree n.select.now ≡ q
  pub gathered : map table_shape n.tables.items ≡ map (gathered_shape (shapes o)) (query_entries q)
  pub known : flat_map (entry_causes (shapes o)) (query_entries q) ≡ []
  pub entries : AreEntriesAt o bound (query_entries q) n.query.entries.items
  pub looked_up : IsLookedUp (map table_shape n.tables.items) q n.query.entries.items n.query
  pub rights : query_right_causes o user q ≡ []

-- a cause of names or rights is told, or that memory was refused
pub record IsNameTold (o : Objects) (user : Name) (q : SelectTree) (c : Cause) : Type 0 where
  pub told : (c ≡ OutOfMemory) ⊎ QueryNames o user q c

abbrev pub NamesOver : Objects → List Attached → Name → SelectTree → Result NamedQuery Cause → Type 0
NamesOver o bound user q (Ok n) = IsNamedOver o bound user q n
NamesOver o bound user q (Err c) = IsNameTold o user q c

-- ---- types

-- the query, over entries with the columns of their tables, and no cause stands
pub record IsBoundOver (o : Objects) (bound : List Attached) (user : Name) (q : SelectTree) (b : BoundQuery) : Type 0 where
  pub meant : IsMeant (meant_by o q) b
  pub there : ArePlaces bound (meant_by o q).entries (map offered.entry_place b.entries.items)
  pub widths : bound_widths b ≡ widths (query_scope (shapes o) q)
  pub kinds : bound_kinds b ≡ answer_types (shapes o) q
  pub safe : are_safe_cores b.select.cores.items ≡ true
  pub names : select_name_causes (shapes o) q ≡ []
  pub rights : query_right_causes o user q ≡ []
  pub types : select_type_causes (shapes o) q ≡ []

-- the types of a query whose names are resolved: it is bound, or one of their causes is told
abbrev pub TypesOver : Objects → List Attached → Name → SelectTree → Result BoundQuery Cause → Type 0
TypesOver o bound user q (Ok b) = IsBoundOver o bound user q b
TypesOver o bound user q (Err c) = TellsCause (select_type_causes (shapes o) q) c

-- ---- both

-- what is told: of names or rights, or of types where none of both stands
pub record IsToldOver (o : Objects) (user : Name) (q : SelectTree) (c : Cause) : Type 0 where
  pub told : (c ≡ OutOfMemory)
      ⊎ (QueryNames o user q c ⊎ (Contains (select_type_causes (shapes o) q) c × ((d : Cause) → QueryNames o user q d → ⊥)))

abbrev pub BindsOver : Objects → List Attached → Name → SelectTree → Result BoundQuery Cause → Type 0
BindsOver o bound user q (Ok b) = IsBoundOver o bound user q b
BindsOver o bound user q (Err c) = IsToldOver o user q c
