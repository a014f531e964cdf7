-- Phase 3 of INSERT, UPDATE and DELETE: the causes of names and rights. A list is read as a set.
use Rattle.std.specs.Prelude.{Bool, List, [], ◌∷◌, ◌++◌, map, flat_map, Option, Some, None, bytes_eq, if◌then◌else◌, Contains}
use Rattle.std.specs.Option.{is_some}
use Rattle.std.specs.List.{list_any}
use Rattle.med_value.specs.Column.{Column}
use Rattle.med_value.specs.declared.cause.Cause.{Cause}
use Rattle.med_value.specs.declared.cause.Cause.TheVariants.{UndefinedTable, UndefinedColumn, DuplicateColumn, MisplacedName}
use Rattle.med_syntax.specs.Prelude.{Name, ExprTree, GivenTree, values, rows_of, InsertTree, SetTree, UpdateTree, DeleteTree, WriteTree, insert, update, delete}
use Rattle.bind_names.specs.Prelude.{TableShape, place_named, name_causes, condition_name_causes, entered_causes, asked_causes, once_known}
use Rattle.med_catalog.specs.Prelude.{Objects, repeats}
use Rattle.med_binder.specs.Prelude.{query_right_causes, target_right_causes, shapes}
use Rattle.bind_write.specs.Meaning.{target_of, columns_in, scope_in}

-- 42P01 where there is no such table
abbrev pub target_causes : List TableShape → Name → List Cause
target_causes tables name = if is_some (place_named tables name) then [] else UndefinedTable ∷ []

-- 42703 for a name that is none of a column
abbrev pub is_column : List Column → Name → Bool
is_column columns name = list_any (λ (c : Column). bytes_eq c.name name) columns

abbrev pub column_unknown : List Column → Name → List Cause
column_unknown columns name = if is_column columns name then [] else UndefinedColumn ∷ []

-- of a list of columns: one is unknown, or stands twice
abbrev pub list_causes : Cause → List Column → List Name → List Cause
list_causes twice columns names = flat_map (column_unknown columns) names ++ (if repeats names then twice ∷ [] else [])

-- 42701 for a column that stands twice in INSERT's list
abbrev pub named_causes : List Column → Option (List Name) → List Cause
named_causes columns None = []
named_causes columns (Some names) = list_causes DuplicateColumn columns names

abbrev pub row_name_causes : List ExprTree → List Cause
row_name_causes es = flat_map (name_causes []) es

-- Columns are looked for once all tables of the statement are known.
abbrev pub insert_name_causes : List TableShape → InsertTree → GivenTree → List Cause
insert_name_causes tables i (values rows) =
    once_known (target_causes tables i.table) (named_causes (columns_in tables i.table) i.columns ++ flat_map row_name_causes rows)
insert_name_causes tables i (rows_of q) =
    once_known (target_causes tables i.table ++ entered_causes tables q)
    (named_causes (columns_in tables i.table) i.columns ++ asked_causes tables q)

abbrev pub set_names : List SetTree → List Name
set_names sets = map (λ (s : SetTree). s.column) sets

abbrev pub set_values : List SetTree → List ExprTree
set_values sets = map (λ (s : SetTree). s.value) sets

-- 42601 for a column that is set twice
abbrev pub update_name_causes : List TableShape → UpdateTree → List Cause
update_name_causes tables u =
    let s = scope_in tables u.entry in
    once_known (target_causes tables u.entry.table) (list_causes MisplacedName (columns_in tables u.entry.table) (set_names u.sets)
    ++ (flat_map (name_causes s) (set_values u.sets) ++ condition_name_causes s u.condition))

abbrev pub delete_name_causes : List TableShape → DeleteTree → List Cause
delete_name_causes tables d =
    once_known (target_causes tables d.entry.table) (condition_name_causes (scope_in tables d.entry) d.condition)

abbrev pub write_name_causes : List TableShape → WriteTree → List Cause
write_name_causes tables (insert i) = insert_name_causes tables i i.given
write_name_causes tables (update u) = update_name_causes tables u
write_name_causes tables (delete d) = delete_name_causes tables d

-- ---- rights

-- a mapping of mode write for the table that is written, and a mapping for each table that the query of an INSERT reads
abbrev pub given_right_causes : Objects → Name → GivenTree → List Cause
given_right_causes o user (values rows) = []
given_right_causes o user (rows_of q) = query_right_causes o user q

abbrev pub read_right_causes : Objects → Name → WriteTree → List Cause
read_right_causes o user (insert i) = given_right_causes o user i.given
read_right_causes o user (update u) = []
read_right_causes o user (delete d) = []

abbrev pub write_right_causes : Objects → Name → WriteTree → List Cause
write_right_causes o user t = target_right_causes o user (target_of t) ++ read_right_causes o user t

-- of names and rights
abbrev pub names_of : Objects → Name → WriteTree → List Cause
names_of o user t = write_name_causes (shapes o) t ++ write_right_causes o user t

-- the cause stands
abbrev pub WriteNames : Objects → Name → WriteTree → Cause → Type 0
WriteNames o user t c = Contains (names_of o user t) c
