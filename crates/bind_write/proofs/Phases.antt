-- Causes of names and rights are of phase 3, and causes of types of phase 4.
use Rattle.std.proofs.Common.{◌≡◌, ◌⊎◌, inl, inr, ℕ, zero, suc, nat_eq, nat_le, Bool, true, false, if◌then◌else◌, length, List, [], ◌∷◌, ◌++◌, map, flat_map, Option, Some, None, unwrap_or, Contains, refl, sym, ap, ◌∙◌, subst, arith}
use Rattle.std.specs.Option.{is_some}
use Rattle.std.specs.List.{list_all}
use Rattle.std.proofs.lemmas.List.Elements.{Contains-append_left, Contains-append_right}
use Rattle.med_value.specs.Prelude.{phase_of, Column}
use Rattle.med_value.specs.declared.value.ColType.{ColType}
use Rattle.med_value.specs.declared.value.ColType.TheVariants.{Bool as Truth}
use Rattle.med_value.specs.declared.cause.Cause.{Cause}
use Rattle.med_value.specs.declared.cause.Cause.TheVariants.{UndefinedTable, UndefinedColumn, UndefinedObject, NoPrivilege, DuplicateColumn, MisplacedName, Grouping, DatatypeMismatch, ValuesSyntax}
use Rattle.med_syntax.specs.Prelude.{Name, ExprTree, value, EntryTree, ChainTree, SelectTree, select, GivenTree, values, rows_of, InsertTree, WriteTree, insert, update, delete}
use Rattle.tri_expr.specs.Tree.{Tree}
use Rattle.bind_names.specs.Prelude.{TableShape, Scope, from_scope, place_named, resolved, conditions_of, name_causes, chain_name_causes, condition_name_causes, entered_causes, asked_causes, once_known}
use Rattle.bind_types.specs.Typing.{type_of, takes, unless, as_condition, no_aggregate, type_causes, chain_type_causes, condition_type_causes, answer_types, select_type_causes}
use Rattle.med_binder.proofs.LawPhases.{names_are_of_phase, types_are_of_phase}
use Rattle.med_catalog.specs.Prelude.{phase, TableObject, Objects, table_named, repeats, mode_for}
use Rattle.med_catalog.specs.declared.kind.Mode.{Mode}
use Rattle.med_catalog.specs.declared.kind.Mode.TheVariants.{Read, Write}
use Rattle.med_binder.specs.Prelude.{writing_causes, table_causes, target_right_causes, shapes}
use Rattle.med_binder.proofs.Phases as of_query
use Rattle.bind_write.specs.Meaning.{target_of, columns_in, scope_in, cells_meant, places_meant, row_meant}
use Rattle.bind_write.specs.Naming.{target_causes, is_column, column_unknown, list_causes, named_causes, row_name_causes, insert_name_causes, set_names, set_values, write_name_causes, given_right_causes, read_right_causes, write_right_causes, WriteNames}
use Rattle.bind_write.specs.Typing.{column_causes, cells_causes, asked_types, set_types, count_causes, type_at, row_fit_causes, length_causes, row_types, row_type_causes, rows_fit_causes, given_type_causes, write_type_causes, WriteTypes}
use Rattle.bind_write.proofs.Lists.{none_in, of_two, right_empty}

-- ---- lists of causes of one phase

abbrev Are : ℕ → List Cause → Type 0
Are n xs = (c : Cause) → Contains xs c → phase_of c ≡ Some n

one_is : (k c : Cause) → Contains (k ∷ []) c → c ≡ k
one_is k c (zero, w, e) = sym e
one_is k c (suc i, w, e) = absurd (omega (arith, w))

no_cause : (n : ℕ) → Are n []
no_cause n c h = absurd (none_in [] c refl h)

one_cause : (n : ℕ) (k : Cause) → phase_of k ≡ Some n → Are n (k ∷ [])
one_cause n k e c h = ap phase_of (one_is k c h) ∙ e

two_parts : (n : ℕ) (xs ys : List Cause) → Are n xs → Are n ys → Are n (xs ++ ys)
two_parts n xs ys h k c i = by (of_two xs ys c i)
  where
    by : Contains xs c ⊎ Contains ys c → phase_of c ≡ Some n
    by (inl j) = h c j
    by (inr j) = k c j

many_parts : {X : Type 0} (n : ℕ) (f : X → List Cause) → ((x : X) → Are n (f x)) → (xs : List X) → Are n (flat_map f xs)
many_parts n f h [] = no_cause n
many_parts n f h (x ∷ xs) = two_parts n (f x) (flat_map f xs) (h x) (many_parts n f h xs)

either_part : (n : ℕ) (b : Bool) (xs ys : List Cause) → Are n xs → Are n ys → Are n (if b then xs else ys)
either_part n true xs ys h k = h
either_part n false xs ys h k = k

once_both : (n : ℕ) (xs ys : List Cause) → Are n xs → (xs ≡ [] → Are n ys) → Are n (once_known xs ys)
once_both n [] ys h k = k refl
once_both n (x ∷ xs) ys h k = h

first_part : (n : ℕ) (xs ys : List Cause) → Are n (once_known xs ys) → Are n xs
first_part n [] ys h = no_cause n
first_part n (x ∷ xs) ys h = h

pass_types : (b : Bool) (k : Cause) → phase_of k ≡ Some 4 → Are 4 (unless b k)
pass_types b k e = either_part 4 b [] (k ∷ []) (no_cause 4) (one_cause 4 k e)

-- ---- expressions over what FROM brings into view: their causes are those of the query that has one as its item

abbrev item_query : List ChainTree → ExprTree → SelectTree
item_query from e = record {
  core = record { distinct = false; items = value e None ∷ []; from = from; condition = None; groups = []; having = None };
  others = [];
  keys = [];
  limit = None;
  offset = None;
}

named : (tables : List TableShape) (from : List ChainTree) (e : ExprTree) → entered_causes tables (item_query from e) ≡ [] → Are 3 (name_causes (from_scope tables from) e)
named tables from e known c h =
    names_are_of_phase tables (select (item_query from e)) c (subst (λ ks. Contains (once_known ks (asked_causes tables (item_query from e))) c) (sym known)
    (Contains-append_left _ _ c (Contains-append_left _ _ c (Contains-append_right (flat_map (chain_name_causes tables) from) _ c (Contains-append_left _ _ c (Contains-append_left _ _ c h))))))

typed : (tables : List TableShape) (from : List ChainTree) (e : ExprTree) → Are 4 (type_causes (from_scope tables from) e)
typed tables from e c h =
    types_are_of_phase tables (select (item_query from e)) c
    (Contains-append_left _ _ c (Contains-append_left _ _ c (Contains-append_left _ _ c (Contains-append_right (flat_map (chain_type_causes tables) from) _ c (Contains-append_left _ _ c (Contains-append_left _ _ c h))))))

condition_named : (tables : List TableShape) (from : List ChainTree) (condition : Option ExprTree) → ((e : ExprTree) → entered_causes tables (item_query from e) ≡ []) → Are 3 (condition_name_causes (from_scope tables from) condition)
condition_named tables from None known = no_cause 3
condition_named tables from (Some e) known = named tables from e (known e)

condition_typed : (tables : List TableShape) (from : List ChainTree) (condition : Option ExprTree) → Are 4 (condition_type_causes (from_scope tables from) condition)
condition_typed tables from None = no_cause 4
condition_typed tables from (Some e) =
    let t = type_of (from_scope tables from) e in
    two_parts 4 (type_causes (from_scope tables from) e) (as_condition t) (typed tables from e) (pass_types (takes Truth t) DatatypeMismatch refl)

asked_phase : (tables : List TableShape) (from : List ChainTree) (es : List ExprTree) (condition : Option ExprTree) → Are 4 (asked_types (from_scope tables from) es condition)
asked_phase tables from es condition =
    two_parts 4 (flat_map (type_causes s) es) (B ++ (C ++ D)) (many_parts 4 (type_causes s) (typed tables from) es)
    (two_parts 4 B (C ++ D) (condition_typed tables from condition) (two_parts 4 C D (pass_types _ Grouping refl) (pass_types _ Grouping refl)))
  where
    s : Scope
    s = from_scope tables from

    B : List Cause
    B = condition_type_causes s condition

    C : List Cause
    C = no_aggregate (conditions_of s condition)

    D : List Cause
    D = no_aggregate (map (resolved s) es)

row_phase : (es : List ExprTree) → Are 3 (row_name_causes es)
row_phase es = many_parts 3 (name_causes []) (λ e. named [] [] e refl) es

row_types_phase : (es : List ExprTree) → Are 4 (row_type_causes es)
row_types_phase es = asked_phase [] [] es None

-- the one chain of an entry
abbrev chain_of : EntryTree → List ChainTree
chain_of e = record { first = e; joins = [] } ∷ []

-- ---- names

target_names : (tables : List TableShape) (name : Name) → Are 3 (target_causes tables name)
target_names tables name = either_part 3 (is_some (place_named tables name)) [] (UndefinedTable ∷ []) (no_cause 3) (one_cause 3 UndefinedTable refl)

list_names : (twice : Cause) (columns : List Column) (names : List Name) → phase_of twice ≡ Some 3 → Are 3 (list_causes twice columns names)
list_names twice columns names e =
    two_parts 3 (flat_map (column_unknown columns) names) (if repeats names then twice ∷ [] else [])
    (many_parts 3 (column_unknown columns) (λ n. either_part 3 (is_column columns n) [] (UndefinedColumn ∷ []) (no_cause 3) (one_cause 3 UndefinedColumn refl)) names)
    (either_part 3 (repeats names) (twice ∷ []) [] (one_cause 3 twice e) (no_cause 3))

insert_list : (columns : List Column) (names : Option (List Name)) → Are 3 (named_causes columns names)
insert_list columns None = no_cause 3
insert_list columns (Some names) = list_names DuplicateColumn columns names refl

of_entry : (tables : List TableShape) (e : EntryTree) (es : List ExprTree) (condition : Option ExprTree) → target_causes tables e.table ≡ []
    → Are 3 (flat_map (name_causes (scope_in tables e)) es ++ condition_name_causes (scope_in tables e) condition)
of_entry tables e es condition known =
    two_parts 3 (flat_map (name_causes (scope_in tables e)) es) (condition_name_causes (scope_in tables e) condition)
    (many_parts 3 (name_causes (scope_in tables e)) (λ x. named tables (chain_of e) x there) es) (condition_named tables (chain_of e) condition (λ x. there))
  where
    there : (target_causes tables e.table ++ []) ++ [] ≡ []
    there = ap (λ ks. (ks ++ []) ++ []) known

query_from : (tables : List TableShape) (q : SelectTree) → Are 3 (entered_causes tables q)
query_from tables q = first_part 3 (entered_causes tables q) (asked_causes tables q) (names_are_of_phase tables (select q))

query_asked : (tables : List TableShape) (q : SelectTree) → entered_causes tables q ≡ [] → Are 3 (asked_causes tables q)
query_asked tables q known c h = names_are_of_phase tables (select q) c (subst (λ xs. Contains xs c) (sym (ap (λ ks. once_known ks (asked_causes tables q)) known)) h)

insert_names : (tables : List TableShape) (i : InsertTree) (g : GivenTree) → Are 3 (insert_name_causes tables i g)
insert_names tables i (values rows) =
    once_both 3 (target_causes tables i.table) (named_causes (columns_in tables i.table) i.columns ++ flat_map row_name_causes rows) (target_names tables i.table)
    (λ known. two_parts 3 (named_causes (columns_in tables i.table) i.columns) (flat_map row_name_causes rows) (insert_list (columns_in tables i.table) i.columns) (many_parts 3 row_name_causes row_phase rows))
insert_names tables i (rows_of q) =
    once_both 3 (target_causes tables i.table ++ entered_causes tables q) (named_causes (columns_in tables i.table) i.columns ++ asked_causes tables q)
    (two_parts 3 (target_causes tables i.table) (entered_causes tables q) (target_names tables i.table) (query_from tables q))
    (λ known. two_parts 3 (named_causes (columns_in tables i.table) i.columns) (asked_causes tables q) (insert_list (columns_in tables i.table) i.columns)
    (query_asked tables q (right_empty (target_causes tables i.table) (entered_causes tables q) known)))

all_names : (tables : List TableShape) (t : WriteTree) → Are 3 (write_name_causes tables t)
all_names tables (insert i) = insert_names tables i i.given
all_names tables (update u) =
    let columns = columns_in tables u.entry.table in
    let asked = flat_map (name_causes (scope_in tables u.entry)) (set_values u.sets) ++ condition_name_causes (scope_in tables u.entry) u.condition in
    once_both 3 (target_causes tables u.entry.table) (list_causes MisplacedName columns (set_names u.sets) ++ asked) (target_names tables u.entry.table)
    (λ known. two_parts 3 (list_causes MisplacedName columns (set_names u.sets)) asked (list_names MisplacedName columns (set_names u.sets) refl) (of_entry tables u.entry (set_values u.sets) u.condition known))
all_names tables (delete d) =
    once_both 3 (target_causes tables d.entry.table) (condition_name_causes (scope_in tables d.entry) d.condition) (target_names tables d.entry.table) (of_entry tables d.entry [] d.condition)

-- ---- rights

mode_rights : (m : Option Mode) → Are 3 (writing_causes m)
mode_rights None = one_cause 3 UndefinedObject refl
mode_rights (Some Read) = one_cause 3 NoPrivilege refl
mode_rights (Some Write) = no_cause 3

table_rights : (o : Objects) (user : Name) (t : Option TableObject) → Are 3 (table_causes writing_causes o user t)
table_rights o user None = no_cause 3
table_rights o user (Some t) = mode_rights (mode_for o user t.server)

of_phase : (p : Option ℕ) → unwrap_or p 7 ≡ 3 → p ≡ Some 3
of_phase None e = absurd cc
of_phase (Some n) e = ap Some e

given_rights : (o : Objects) (user : Name) (g : GivenTree) → Are 3 (given_right_causes o user g)
given_rights o user (values rows) = no_cause 3
given_rights o user (rows_of q) = λ c h. of_phase (phase_of c) (of_query.names o user q c (inr h))

reading_rights : (o : Objects) (user : Name) (t : WriteTree) → Are 3 (read_right_causes o user t)
reading_rights o user (insert i) = given_rights o user i.given
reading_rights o user (update u) = no_cause 3
reading_rights o user (delete d) = no_cause 3

all_rights : (o : Objects) (user name : Name) (t : WriteTree) → Are 3 (target_right_causes o user name ++ read_right_causes o user t)
all_rights o user name t = two_parts 3 (target_right_causes o user name) (read_right_causes o user t) (table_rights o user (table_named o name)) (reading_rights o user t)

-- ---- types

column_types : (c : Column) (g : Option (Option ColType)) → Are 4 (column_causes c g)
column_types c None = no_cause 4
column_types c (Some t) = pass_types (takes c.kind t) DatatypeMismatch refl

cells_types : (cs : List Column) (gs : List (Option (Option ColType))) → Are 4 (cells_causes cs gs)
cells_types [] gs = no_cause 4
cells_types (c ∷ cs) [] = no_cause 4
cells_types (c ∷ cs) (g ∷ gs) = two_parts 4 (column_causes c g) (cells_causes cs gs) (column_types c g) (cells_types cs gs)

count_types : (columns : List Column) (names : Option (List Name)) (n : ℕ) → Are 4 (count_causes columns names n)
count_types columns None n = pass_types (nat_le n (length columns)) ValuesSyntax refl
count_types columns (Some names) n = pass_types (nat_eq n (length names)) ValuesSyntax refl

fit_types : (columns : List Column) (names : Option (List Name)) (types : List (Option ColType)) → Are 4 (row_fit_causes columns names types)
fit_types columns names types =
    two_parts 4 (count_causes columns names (length types)) (cells_causes columns (map (type_at types) (places_meant names columns)))
    (count_types columns names (length types)) (cells_types columns (map (type_at types) (places_meant names columns)))

length_types : (rows : List (List Tree)) → Are 4 (length_causes rows)
length_types [] = no_cause 4
length_types (r ∷ rs) = pass_types (list_all (λ s. nat_eq (length s) (length r)) rs) ValuesSyntax refl

given_types : (tables : List TableShape) (columns : List Column) (names : Option (List Name)) (g : GivenTree) → Are 4 (given_type_causes tables columns names g)
given_types tables columns names (values rows) =
    two_parts 4 (flat_map row_type_causes rows) (rows_fit_causes columns names (map row_meant rows)) (many_parts 4 row_type_causes row_types_phase rows)
    (two_parts 4 (length_causes (map row_meant rows)) (flat_map (λ ts. row_fit_causes columns names (row_types ts)) (map row_meant rows)) (length_types (map row_meant rows))
    (many_parts 4 (λ ts. row_fit_causes columns names (row_types ts)) (λ ts. fit_types columns names (row_types ts)) (map row_meant rows)))
given_types tables columns names (rows_of q) =
    two_parts 4 (select_type_causes tables q) (flat_map (row_fit_causes columns names) (answer_types tables q)) (types_are_of_phase tables (select q))
    (many_parts 4 (row_fit_causes columns names) (fit_types columns names) (answer_types tables q))

all_types : (tables : List TableShape) (t : WriteTree) → Are 4 (write_type_causes tables t)
all_types tables (insert i) = given_types tables (columns_in tables i.table) i.columns i.given
all_types tables (update u) =
    let s = scope_in tables u.entry in
    let columns = columns_in tables u.entry.table in
    two_parts 4 (asked_types s (set_values u.sets) u.condition) (cells_causes columns (set_types columns (cells_meant s columns u.sets)))
    (asked_phase tables (chain_of u.entry) (set_values u.sets) u.condition) (cells_types columns (set_types columns (cells_meant s columns u.sets)))
all_types tables (delete d) = asked_phase tables (chain_of d.entry) [] d.condition

-- ---- the law

pub names : (o : Objects) (user : Name) (t : WriteTree) (c : Cause) → WriteNames o user t c → phase c ≡ 3
names o user t c h = ap (λ p. unwrap_or p 7)
    (two_parts 3 (write_name_causes (shapes o) t) (write_right_causes o user t) (all_names (shapes o) t) (all_rights o user (target_of t) t) c h)

pub types : (o : Objects) (t : WriteTree) (c : Cause) → WriteTypes o t c → phase c ≡ 4
types o t c h = ap (λ p. unwrap_or p 7) (all_types (shapes o) t c h)
