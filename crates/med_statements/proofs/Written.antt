-- The rows that a write writes are of its table's types.
use Rattle.std.proofs.Common.{◌≡◌, true, false, ◌&&◌, Bool, List, [], ◌∷◌, map, filter, flat_map, All, Option, Some, option_map, bytes_eq, if◌then◌else◌, refl}
use Rattle.std.specs.List.{list_all}
use Rattle.std.proofs.lemmas.List.Elements.{All-head, All-tail}
use Rattle.std.proofs.lemmas.Bool.{and_parts}
use Rattle.med_value.specs.Prelude.{Column, Tuple}
use Rattle.med_value.specs.declared.cause.Cause.{Cause}
use Rattle.med_syntax.specs.Prelude.{Name, ExprTree, CoreTree, cores_of, GivenTree, values, rows_of, InsertTree, SetTree, WriteTree, insert, update, delete}
use Rattle.tri_expr.specs.Prelude.{means, Outcome, value_of, Tree}
use Rattle.med_query.specs.Query.{Tables, keeps}
use Rattle.fdw_api.specs.Scan.{row_fits}
use Rattle.med_write.specs.Form.{update_form}
use Rattle.med_write.specs.Writing.{outcomes_of, outcomes_on, new_cells, rows_given, row_made, rows_chosen}
use Rattle.bind_names.specs.Prelude.{TableShape, Scope, resolved, conditions_of}
use Rattle.bind_types.specs.TreeTypes.{column_kinds}
use Rattle.bind_types.specs.Typing.{core_types, answer_types, select_type_causes}
use Rattle.med_catalog.specs.Objects.{Objects}
use Rattle.med_binder.specs.Tables.{shapes}
use Rattle.bind_write.proofs.Lists.{left_empty, right_empty, empty_by}
use Rattle.bind_write.specs.Meaning.{target_of, columns_in, scope_in, set_for, cells_meant, places_meant, row_meant, given_meant, write_meant}
use Rattle.bind_write.specs.Naming.{set_values}
use Rattle.bind_write.specs.Typing.{WriteTypes, types_of, asked_types, cells_causes, set_types, row_types, row_fit_causes, length_causes, row_type_causes, rows_fit_causes, given_type_causes}
use Rattle.med_exec.specs.Writing.{IsTypedWrite}
use Rattle.med_statements.specs.Typed.{texts_in, given_texts, IsClean, IsAnswered, AreGivenRows}
use Rattle.med_statements.proofs.Rows.{IsCleanText, IsCleanCell, clean_tree, inserted_fits, values_of_types, made_fits, all_left, all_right}
use Rattle.med_statements.proofs.Answers.{Lets, answer_is}

abbrev WrittenFit : List Column → List (List Outcome) → Type 0
WrittenFit columns rows = list_all (λ os. row_fits (column_kinds columns) (map value_of os)) rows ≡ true

one_more : (b c : Bool) → b ≡ true → c ≡ true → (b && c) ≡ true
one_more true true h k = refl
one_more true false h k = absurd cc
one_more false c h k = absurd cc

-- ---- VALUES

values_fit : (columns : List Column) (names : Option (List Name)) (rows : List (List ExprTree)) → All IsCleanText (flat_map (flat_map texts_in) rows)
    → flat_map (λ ts. row_fit_causes columns names (row_types ts)) (map row_meant rows) ≡ []
    → WrittenFit columns (map (new_cells (places_meant names columns)) (map (outcomes_on []) (map row_meant rows)))
values_fit columns names [] clean none = refl
values_fit columns names (es ∷ rows) clean none =
    let first = left_empty (row_fit_causes columns names (row_types (row_meant es))) (flat_map (λ ts. row_fit_causes columns names (row_types ts)) (map row_meant rows)) none in
    let rest = right_empty (row_fit_causes columns names (row_types (row_meant es))) (flat_map (λ ts. row_fit_causes columns names (row_types ts)) (map row_meant rows)) none in
    one_more (row_fits (column_kinds columns) (map value_of (new_cells (places_meant names columns) (outcomes_on [] (row_meant es)))))
    (list_all (λ os. row_fits (column_kinds columns) (map value_of os)) (map (new_cells (places_meant names columns)) (map (outcomes_on []) (map row_meant rows))))
    (inserted_fits columns names (row_types (row_meant es)) (outcomes_on [] (row_meant es)) (values_of_types es (all_left IsCleanText (flat_map texts_in es) (flat_map (flat_map texts_in) rows) clean)) first)
    (values_fit columns names rows (all_right IsCleanText (flat_map texts_in es) (flat_map (flat_map texts_in) rows) clean) rest)

-- ---- a query

-- a row of the answer fits the columns
abbrev RowFits : List Column → Option (List Name) → Tuple → Type 0
RowFits columns names r = row_fits (column_kinds columns) (map value_of (new_cells (places_meant names columns) (outcomes_of r))) ≡ true

-- those of each core do, whose types fit
each_core : (tables : List TableShape) (columns : List Column) (names : Option (List Name)) (cs : List CoreTree) → flat_map (row_fit_causes columns names) (map (core_types tables) cs) ≡ [] → Lets (RowFits columns names) tables cs
each_core tables columns names [] none = tt
each_core tables columns names (c ∷ cs) none =
    let first = left_empty (row_fit_causes columns names (core_types tables c)) (flat_map (row_fit_causes columns names) (map (core_types tables) cs)) none in
    let rest = right_empty (row_fit_causes columns names (core_types tables c)) (flat_map (row_fit_causes columns names) (map (core_types tables) cs)) none in
    (λ r h. inserted_fits columns names (core_types tables c) (outcomes_of r) h first, each_core tables columns names cs rest)

answer_fits : (columns : List Column) (names : Option (List Name)) (answer : List Tuple) → All (RowFits columns names) answer → WrittenFit columns (map (new_cells (places_meant names columns)) (map outcomes_of answer))
answer_fits columns names [] h = refl
answer_fits columns names (r ∷ rs) h =
    one_more (row_fits (column_kinds columns) (map value_of (new_cells (places_meant names columns) (outcomes_of r))))
    (list_all (λ os. row_fits (column_kinds columns) (map value_of os)) (map (new_cells (places_meant names columns)) (map outcomes_of rs)))
    (All-head (RowFits columns names) r rs h) (answer_fits columns names rs (All-tail (RowFits columns names) r rs h))

-- ---- UPDATE

cell_by : (s : Scope) (b : Bool) (e : ExprTree) (r : Option ExprTree) → All IsCleanText (texts_in e) → IsCleanCell (option_map (resolved s) r) → IsCleanCell (option_map (resolved s) (if b then Some e else r))
cell_by s true e r h k = clean_tree s e h
cell_by s false e r h k = k

set_clean : (s : Scope) (sets : List SetTree) → All IsCleanText (flat_map texts_in (set_values sets)) → (n : Name) → IsCleanCell (option_map (resolved s) (set_for n sets))
set_clean s [] h n = tt
set_clean s (x ∷ xs) h n =
    cell_by s (bytes_eq x.column n) x.value (set_for n xs) (all_left IsCleanText (texts_in x.value) (flat_map texts_in (set_values xs)) h)
    (set_clean s xs (all_right IsCleanText (texts_in x.value) (flat_map texts_in (set_values xs)) h) n)

kept_by : {X : Type 0} (p q : X → Bool) (x : X) (xs : List X) (b : Bool) → q x ≡ b → p x ≡ true → list_all p (filter q xs) ≡ true → list_all p (filter q (x ∷ xs)) ≡ true
kept_by p q x xs true e h k = rw (e, h) k
kept_by p q x xs false e h k = rw e k

chosen_fit : {X : Type 0} (p q : X → Bool) (xs : List X) → list_all p xs ≡ true → list_all p (filter q xs) ≡ true
chosen_fit p q [] h = refl
chosen_fit p q (x ∷ xs) h = let parts = and_parts (p x) (list_all p xs) h in kept_by p q x xs (q x) refl parts.0 (chosen_fit p q xs parts.1)

each_made : (columns : List Column) (f : Column → Option Tree) → ((c : Column) → IsCleanCell (f c)) → cells_causes columns (set_types columns (map f columns)) ≡ []
    → (rows : List Tuple) → list_all (row_fits (column_kinds columns)) rows ≡ true → WrittenFit columns (map (row_made (map f columns)) rows)
each_made columns f clean none [] h = refl
each_made columns f clean none (r ∷ rs) h =
    let parts = and_parts (row_fits (column_kinds columns) r) (list_all (row_fits (column_kinds columns)) rs) h in
    one_more (row_fits (column_kinds columns) (map value_of (row_made (map f columns) r))) (list_all (λ os. row_fits (column_kinds columns) (map value_of os)) (map (row_made (map f columns)) rs))
    (made_fits f clean columns (column_kinds columns) r 0 parts.0 refl none) (each_made columns f clean none rs parts.1)

-- ---- the law

typed_given : (tables : List TableShape) (i : InsertTree) (g : GivenTree) (db : Tables) (answer : List Tuple) → All IsCleanText (given_texts g)
    → given_type_causes tables (columns_in tables i.table) i.columns g ≡ [] → IsAnswered tables g db answer
    → WrittenFit (columns_in tables i.table) (map (new_cells (places_meant i.columns (columns_in tables i.table))) (rows_given (given_meant g) answer))
typed_given tables i (values rows) db answer clean none given =
    let columns = columns_in tables i.table in
    values_fit columns i.columns rows clean
    (right_empty (length_causes (map row_meant rows)) (flat_map (λ ts. row_fit_causes columns i.columns (row_types ts)) (map row_meant rows))
    (right_empty (flat_map row_type_causes rows) (rows_fit_causes columns i.columns (map row_meant rows)) none))
typed_given tables i (rows_of q) db answer clean none given =
    let columns = columns_in tables i.table in
    let lets = each_core tables columns i.columns (cores_of q) (right_empty (select_type_causes tables q) (flat_map (row_fit_causes columns i.columns) (answer_types tables q)) none) in
    answer_fits columns i.columns answer (answer_is (RowFits columns i.columns) tables q db answer given.0 clean lets given.1)

typed_write : (o : Objects) (t : WriteTree) (db : Tables) (answer : List Tuple) → types_of o t ≡ [] → IsClean t → AreGivenRows (shapes o) t db answer
    → IsTypedWrite (column_kinds (columns_in (shapes o) (target_of t))) (write_meant (shapes o) t) answer
typed_write o (insert i) db answer none clean given = λ rows h. typed_given (shapes o) i i.given db answer clean none given
typed_write o (update u) db answer none clean given = λ rows h.
    let s = scope_in (shapes o) u.entry in
    let columns = columns_in (shapes o) u.entry.table in
    let f = λ (c : Column). option_map (resolved s) (set_for c.name u.sets) in
    each_made columns f (λ c. set_clean s u.sets clean c.name)
    (right_empty (asked_types s (set_values u.sets) u.condition) (cells_causes columns (set_types columns (cells_meant s columns u.sets))) none)
    (rows_chosen (update_form (conditions_of s u.condition) (cells_meant s columns u.sets)) rows)
    (chosen_fit (row_fits (column_kinds columns)) (keeps (means [] (conditions_of s u.condition))) rows h)
typed_write o (delete d) db answer none clean given = λ rows h. refl

pub written_typed : (o : Objects) (t : WriteTree) (db : Tables) (answer : List Tuple) → ((c : Cause) → WriteTypes o t c → ⊥) → IsClean t → AreGivenRows (shapes o) t db answer
    → IsTypedWrite (column_kinds (columns_in (shapes o) (target_of t))) (write_meant (shapes o) t) answer
written_typed o t db answer none clean given = typed_write o t db answer (empty_by (types_of o t) none) clean given
