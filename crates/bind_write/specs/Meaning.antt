-- What INSERT, UPDATE and DELETE mean over the tables of a catalogue, in terms of places (SQL:2016, part 2, 14 "Data manipulation").
use Rattle.std.specs.Prelude.{ℕ, suc, List, [], ◌∷◌, map, Option, Some, None, option_map, unwrap_or, bytes_eq, if◌then◌else◌}
use Rattle.med_value.specs.Column.{Column}
use Rattle.med_syntax.specs.Prelude.{Name, ExprTree, EntryTree, GivenTree, values, rows_of, InsertTree, SetTree, UpdateTree, DeleteTree, WriteTree, insert, update, delete}
use Rattle.tri_expr.specs.Tree.{Tree}
use Rattle.bind_names.specs.Prelude.{TableShape, Scope, table_named, entry_shape, resolved, conditions_of}
use Rattle.med_write.specs.declared.write.WrittenColumn.{WrittenColumn}
use Rattle.med_write.specs.Form.{GivenForm, values_form, answer_form, WriteForm, insert_form, update_form, delete_form}

-- the table that is written
abbrev pub target_of : WriteTree → Name
target_of (insert i) = i.table
target_of (update u) = u.entry.table
target_of (delete d) = d.entry.table

-- the columns of the table of this name; of one that is not there nothing is known
abbrev pub columns_in : List TableShape → Name → List Column
columns_in tables name = unwrap_or (option_map (λ (t : TableShape). t.columns) (table_named tables name)) []

-- what a write has to know of a column
abbrev pub written_column : Column → WrittenColumn
written_column c = record { kind = c.kind; not_null = c.not_null }

-- ---- UPDATE and DELETE (SQL:2016, <update statement: searched>, <delete statement: searched>)

-- WHERE and SET see the columns of the table, under its alias or else its name
abbrev pub scope_in : List TableShape → EntryTree → Scope
scope_in tables e = entry_shape tables e ∷ []

-- what SET says of a column
abbrev pub set_for : Name → List SetTree → Option ExprTree
set_for column [] = None
set_for column (s ∷ ss) = if bytes_eq s.column column then Some s.value else set_for column ss

-- for each column the expression of SET, none where the old cell stays
abbrev pub cells_meant : Scope → List Column → List SetTree → List (Option Tree)
cells_meant s columns sets = map (λ (c : Column). option_map (resolved s) (set_for c.name sets)) columns

abbrev pub update_meant : List TableShape → UpdateTree → WriteForm
update_meant tables u =
    let s = scope_in tables u.entry in
    update_form (conditions_of s u.condition) (cells_meant s (columns_in tables u.entry.table) u.sets)

abbrev pub delete_meant : List TableShape → DeleteTree → WriteForm
delete_meant tables d = delete_form (conditions_of (scope_in tables d.entry) d.condition)

-- ---- INSERT (SQL:2016, <insert statement>)

-- the place of a name among these, the first of which stands in this place
abbrev pub name_place : ℕ → List Name → Name → Option ℕ
name_place at [] name = None
name_place at (n ∷ ns) name = if bytes_eq n name then Some at else name_place (suc at) ns name

-- the values in their order, the first of them standing in this place
abbrev pub places_in_turn : ℕ → List Column → List (Option ℕ)
places_in_turn at [] = []
places_in_turn at (c ∷ cs) = Some at ∷ places_in_turn (suc at) cs

-- For each column the place of its value: that of its name in the list of columns, none where it is not named there; without a list the
-- values go to the first columns.
abbrev pub places_meant : Option (List Name) → List Column → List (Option ℕ)
places_meant None columns = places_in_turn 0 columns
places_meant (Some names) columns = map (λ (c : Column). name_place 0 names c.name) columns

-- VALUES sees no column
abbrev pub row_meant : List ExprTree → List Tree
row_meant es = map (resolved []) es

abbrev pub given_meant : GivenTree → GivenForm
given_meant (values rows) = values_form (map row_meant rows)
given_meant (rows_of q) = answer_form

abbrev pub insert_meant : List TableShape → InsertTree → WriteForm
insert_meant tables i = insert_form (places_meant i.columns (columns_in tables i.table)) (given_meant i.given)

-- ---- the whole

abbrev pub write_meant : List TableShape → WriteTree → WriteForm
write_meant tables (insert i) = insert_meant tables i
write_meant tables (update u) = update_meant tables u
write_meant tables (delete d) = delete_meant tables d
