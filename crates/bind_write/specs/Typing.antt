-- Phase 4 of INSERT, UPDATE and DELETE: the causes of types. A list is read as a set.
use Rattle.std.specs.Prelude.{ℕ, nat_eq, nat_le, List, [], ◌∷◌, ◌++◌, map, flat_map, length, Option, Some, None, slice_get, option_map, Contains}
use Rattle.std.specs.List.{list_all}
use Rattle.std.specs.Option.{option_and_then}
use Rattle.med_value.specs.Column.{Column}
use Rattle.med_value.specs.declared.value.ColType.{ColType}
use Rattle.med_value.specs.declared.cause.Cause.{Cause}
use Rattle.med_value.specs.declared.cause.Cause.TheVariants.{DatatypeMismatch, ValuesSyntax}
use Rattle.med_syntax.specs.Prelude.{Name, ExprTree, GivenTree, values, rows_of, InsertTree, UpdateTree, DeleteTree, WriteTree, insert, update, delete}
use Rattle.tri_expr.specs.Tree.{Tree}
use Rattle.bind_names.specs.Prelude.{TableShape, Scope, resolved, conditions_of}
use Rattle.bind_types.specs.TreeTypes.{tree_type, column_kinds}
use Rattle.bind_types.specs.Typing.{takes, unless, type_causes, condition_type_causes, no_aggregate, answer_types, select_type_causes}
use Rattle.med_catalog.specs.Objects.{Objects}
use Rattle.med_binder.specs.Tables.{shapes}
use Rattle.bind_write.specs.Meaning.{columns_in, scope_in, cells_meant, places_meant, row_meant}
use Rattle.bind_write.specs.Naming.{set_values}

-- 42804 for a value of another type than the column's. Without a value there is nothing to ask, and one without a type, as NULL, takes
-- the column's.
abbrev pub column_causes : Column → Option (Option ColType) → List Cause
column_causes c None = []
column_causes c (Some given) = unless (takes c.kind given) DatatypeMismatch

-- of each column with what is written there
abbrev pub cells_causes : List Column → List (Option (Option ColType)) → List Cause
cells_causes [] given = []
cells_causes (c ∷ cs) [] = []
cells_causes (c ∷ cs) (g ∷ gs) = column_causes c g ++ cells_causes cs gs

-- Of expressions that see this, and of WHERE: 42803 for an aggregate in VALUES, SET or WHERE.
abbrev pub asked_types : Scope → List ExprTree → Option ExprTree → List Cause
asked_types s es condition =
    flat_map (type_causes s) es ++ (condition_type_causes s condition
    ++ (no_aggregate (conditions_of s condition) ++ no_aggregate (map (resolved s) es)))

-- ---- UPDATE and DELETE

abbrev pub set_types : List Column → List (Option Tree) → List (Option (Option ColType))
set_types columns cells = map (option_map (tree_type (column_kinds columns))) cells

abbrev pub update_type_causes : List TableShape → UpdateTree → List Cause
update_type_causes tables u =
    let s = scope_in tables u.entry in
    let columns = columns_in tables u.entry.table in
    asked_types s (set_values u.sets) u.condition ++ cells_causes columns (set_types columns (cells_meant s columns u.sets))

abbrev pub delete_type_causes : List TableShape → DeleteTree → List Cause
delete_type_causes tables d = asked_types (scope_in tables d.entry) [] d.condition

-- ---- INSERT

-- 42601 for more values than columns, or not as many as named columns
abbrev pub count_causes : List Column → Option (List Name) → ℕ → List Cause
count_causes columns None n = unless (nat_le n (length columns)) ValuesSyntax
count_causes columns (Some names) n = unless (nat_eq n (length names)) ValuesSyntax

-- the type of the value in a place
abbrev pub type_at : List (Option ColType) → Option ℕ → Option (Option ColType)
type_at types place = option_and_then (slice_get types) place

-- of a row of values of these types
abbrev pub row_fit_causes : List Column → Option (List Name) → List (Option ColType) → List Cause
row_fit_causes columns names types =
    count_causes columns names (length types) ++ cells_causes columns (map (type_at types) (places_meant names columns))

-- 42601 for rows of VALUES of different lengths
abbrev pub length_causes : {X : Type 0} → List (List X) → List Cause
length_causes [] = []
length_causes (r ∷ rs) = unless (list_all (λ s. nat_eq (length s) (length r)) rs) ValuesSyntax

-- the types of a row of VALUES, which sees no column
abbrev pub row_types : List Tree → List (Option ColType)
row_types ts = map (tree_type []) ts

abbrev pub row_type_causes : List ExprTree → List Cause
row_type_causes es = asked_types [] es None

-- of rows of VALUES whose names are resolved
abbrev pub rows_fit_causes : List Column → Option (List Name) → List (List Tree) → List Cause
rows_fit_causes columns names rows = length_causes rows ++ flat_map (λ ts. row_fit_causes columns names (row_types ts)) rows

-- What each core of a query answers is a row too: a NULL literal there takes the type of its column.
abbrev pub given_type_causes : List TableShape → List Column → Option (List Name) → GivenTree → List Cause
given_type_causes tables columns names (values rows) =
    flat_map row_type_causes rows ++ rows_fit_causes columns names (map row_meant rows)
given_type_causes tables columns names (rows_of q) =
    select_type_causes tables q ++ flat_map (row_fit_causes columns names) (answer_types tables q)

abbrev pub insert_type_causes : List TableShape → InsertTree → List Cause
insert_type_causes tables i = given_type_causes tables (columns_in tables i.table) i.columns i.given

-- ---- the whole

abbrev pub write_type_causes : List TableShape → WriteTree → List Cause
write_type_causes tables (insert i) = insert_type_causes tables i
write_type_causes tables (update u) = update_type_causes tables u
write_type_causes tables (delete d) = delete_type_causes tables d

abbrev pub types_of : Objects → WriteTree → List Cause
types_of o t = write_type_causes (shapes o) t

-- the cause stands
abbrev pub WriteTypes : Objects → WriteTree → Cause → Type 0
WriteTypes o t c = Contains (types_of o t) c
