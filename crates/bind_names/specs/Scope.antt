-- Which columns an expression sees, and which of them a name means (SQL:2016, 6.7 <column reference> and 5.4 "Names and identifiers").
use Rattle.std.specs.Prelude.{ℕ, suc, ◌+◌, Bool, true, List, [], ◌∷◌, ◌++◌, length, map, Option, Some, None, option_map, unwrap_or, flat_map, if◌then◌else◌, bytes_eq, slice_get}
use Rattle.std.specs.Option.{option_and_then, is_some}
use Rattle.std.specs.List.{list_any}
use Rattle.med_value.specs.Column.{Column, column_of}
use Rattle.med_value.specs.declared.value.ColType.{ColType}
use Rattle.med_syntax.specs.Prelude.{Name, EntryTree, JoinTree, inner_join, left_join, cross_join, ChainTree, CoreTree, SelectTree, cores_of}
use Rattle.bind_names.specs.declared.table.TableView.{TableView}
use Rattle.bind_names.specs.declared.scope.Visible.{Visible}

-- a table by its name and its columns
pub record TableShape : Type 0 where
  pub name : Name
  pub columns : List Column

abbrev pub table_shape : TableView → TableShape
table_shape t = record { name = t.name.now; columns = map column_of t.columns.now }

abbrev pub shapes_of : List TableView → List TableShape
shapes_of = map table_shape

-- The entries of FROM that are in view, in their order: each under the name by which it is called there, its alias or else its table's
-- name. Their columns have places, counted over all of them from the left.
abbrev pub Scope : Type 0
Scope = List TableShape

-- an entry in view
abbrev pub visible : Visible → TableShape
visible v = record { name = v.name.now; columns = map column_of v.columns.now }

abbrev pub scope_of : List Visible → Scope
scope_of = map visible

-- a qualifier names the entry; without one each entry is meant
abbrev pub is_meant : Option Name → TableShape → Bool
is_meant None entry = true
is_meant (Some q) entry = bytes_eq entry.name q

-- a qualifier names a visible entry
abbrev pub has_entry : Scope → Option Name → Bool
has_entry scope None = true
has_entry scope (Some q) = list_any (is_meant (Some q)) scope

-- the places of the columns of this name, the first column standing at this place
abbrev pub places_from : ℕ → List Column → Name → List ℕ
places_from at [] name = []
places_from at (c ∷ cs) name = if bytes_eq c.name name then at ∷ places_from (suc at) cs name else places_from (suc at) cs name

-- the same in an entry, if it is meant
abbrev pub places_under : ℕ → TableShape → Option Name → Name → List ℕ
places_under at e q name = if is_meant q e then places_from at e.columns name else []

-- the same in the entries that are meant
abbrev pub candidates_from : ℕ → Scope → Option Name → Name → List ℕ
candidates_from at [] q name = []
candidates_from at (e ∷ es) q name = places_under at e q name ++ candidates_from (at + length e.columns) es q name

-- the places of the columns that a name, perhaps qualified, can mean: it means the column at its one place
abbrev pub candidates : Scope → Option Name → Name → List ℕ
candidates = candidates_from 0

-- all columns in view
abbrev pub columns_of : Scope → List Column
columns_of [] = []
columns_of (e ∷ es) = e.columns ++ columns_of es

-- the type of the column at a place
abbrev pub kind_there : List Column → ℕ → Option ColType
kind_there columns place = option_map (λ (c : Column). c.kind) (slice_get columns place)

abbrev pub kind_at : Scope → ℕ → Option ColType
kind_at scope = kind_there (columns_of scope)

-- the type of the one column that a name means
abbrev pub kind_among : Scope → List ℕ → Option ColType
kind_among s [] = None
kind_among s (p ∷ []) = kind_at s p
kind_among s (p ∷ r ∷ rs) = None

-- the place of the first table of this name
abbrev pub place_from : ℕ → List TableShape → Name → Option ℕ
place_from at [] name = None
place_from at (t ∷ ts) name = if bytes_eq t.name name then Some at else place_from (suc at) ts name

abbrev pub place_named : List TableShape → Name → Option ℕ
place_named = place_from 0

-- the table there
abbrev pub table_named : List TableShape → Name → Option TableShape
table_named tables name = option_and_then (slice_get tables) (place_named tables name)

-- the name by which an entry is called: its alias, or else its table's name
abbrev pub exposed_name : EntryTree → Name
exposed_name e = unwrap_or e.alias e.table

-- the entry that a join brings
abbrev pub joined_entry : JoinTree → EntryTree
joined_entry (inner_join e on) = e
joined_entry (left_join e on) = e
joined_entry (cross_join e) = e

-- the entries of FROM, in the order in which they are written
abbrev pub chain_entries : ChainTree → List EntryTree
chain_entries c = c.first ∷ map joined_entry c.joins

abbrev pub entries_of : List ChainTree → List EntryTree
entries_of = flat_map chain_entries

-- there is a table of the entry's name
abbrev pub is_known : List TableShape → EntryTree → Bool
is_known tables e = is_some (place_named tables e.table)

-- the place of the entry's table, and what the entry brings into view; of a table that is not there nothing is known
abbrev pub entry_place : List TableShape → EntryTree → ℕ
entry_place tables e = unwrap_or (place_named tables e.table) 0

abbrev pub entry_columns : List TableShape → EntryTree → List Column
entry_columns tables e = unwrap_or (option_map (λ (t : TableShape). t.columns) (table_named tables e.table)) []

abbrev pub entry_shape : List TableShape → EntryTree → TableShape
entry_shape tables e = record { name = exposed_name e; columns = entry_columns tables e }

-- what FROM brings into view
abbrev pub from_scope : List TableShape → List ChainTree → Scope
from_scope tables chains = map (entry_shape tables) (entries_of chains)

-- ---- the entries of a query

-- those of each core, one core after another
abbrev pub query_entries : SelectTree → List EntryTree
query_entries q = flat_map (λ (c : CoreTree). entries_of c.from) (cores_of q)

-- what each of them brings into view of its core, and the places of their tables
abbrev pub query_scope : List TableShape → SelectTree → Scope
query_scope tables q = map (entry_shape tables) (query_entries q)

abbrev pub query_places : List TableShape → SelectTree → List ℕ
query_places tables q = map (entry_place tables) (query_entries q)
