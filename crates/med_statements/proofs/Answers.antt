-- The rows of an answer are of the types of the items of their cores.
use Rattle.std.proofs.Common.{◌≡◌, ◌+◌, ℕ, suc, true, false, Bool, not, if◌then◌else◌, length, List, [], ◌∷◌, map, filter, flat_map, drop, All, Option, Some, None, sym, subst}
use Rattle.std.proofs.lemmas.List.Elements.{All-cons, All-nil, All-head, All-tail, All-append, All-filter, All-map, All-take, All-drop}
use Rattle.std.proofs.lemmas.List.Sorted.{All-permutation}
use Rattle.std.proofs.lemmas.List.Sums.{list_all-from_AllPass}
use Rattle.med_value.specs.Prelude.{Column, Tuple}
use Rattle.med_value.specs.declared.value.ColType.{ColType}
use Rattle.med_syntax.specs.Tree.{Name}
use Rattle.med_syntax.specs.QueryTree.{ItemTree, all, all_of, value, CoreTree, SelectTree, cores_of}
use Rattle.tri_expr.specs.Prelude.{means, over, value_of, column}
use Rattle.med_query.specs.Prelude.{core_by, query_by, distinct, tuple_eq, Core, Tables, Grouping, Output, key_of, has_key, keeps, kept, joined, classes_by, classes_of, classes, has_class, kept_classes, output, outputs_all, output_eq, core_outputs, outputs, limited, IsAnswer}
use Rattle.fdw_api.specs.Scan.{row_fits}
use Rattle.med_write.specs.Writing.{outcomes_of}
use Rattle.bind_names.specs.Prelude.{TableShape, Scope, is_meant, columns_of, entries_of, query_entries, from_scope, resolved, shown_name, columns_from, starred_in, starred, item_outputs, outputs_of, meant_in}
use Rattle.bind_names.specs.Meaning as names
use Rattle.bind_types.specs.TreeTypes.{tree_type, column_kinds}
use Rattle.bind_types.specs.Typing.{core_types}
use Rattle.med_statements.specs.Typed.{item_texts, core_texts, query_texts, AreTyped}
use Rattle.med_statements.proofs.Values.{IsCleanTree, tree_fits}
use Rattle.med_statements.proofs.Rows.{IsCleanText, AreOfTypes, clean_tree, all_left, all_right}
use Rattle.med_statements.proofs.Joined.{AllRows, AreTypedFrom, typed_left, typed_right, joined_fit, all_typed}

-- ---- the items

abbrev IsCleanOutput : names.Output → Type 0
IsCleanOutput o = IsCleanTree o.value

abbrev AreClean : List names.Output → Type 0
AreClean outs = All IsCleanOutput outs

columns_clean : (at : ℕ) (cs : List Column) → AreClean (columns_from at cs)
columns_clean at [] = All-nil IsCleanOutput
columns_clean at (c ∷ cs) =
    let o : names.Output = record { name = c.name; value = column at } in
    All-cons IsCleanOutput o (columns_from (suc at) cs) tt (columns_clean (suc at) cs)

meant_clean : (b : Bool) (outs : List names.Output) → AreClean outs → AreClean (if b then outs else [])
meant_clean true outs h = h
meant_clean false outs h = All-nil IsCleanOutput

starred_clean : (at : ℕ) (q : Option Name) (s : Scope) → AreClean (starred at q s)
starred_clean at q [] = All-nil IsCleanOutput
starred_clean at q (e ∷ es) =
    All-append IsCleanOutput (starred_in at q e) (starred (at + length e.columns) q es)
    (meant_clean (is_meant q e) (columns_from at e.columns) (columns_clean at e.columns)) (starred_clean (at + length e.columns) q es)

item_clean : (s : Scope) (i : ItemTree) → All IsCleanText (item_texts i) → AreClean (item_outputs s i)
item_clean s all h = starred_clean 0 None s
item_clean s (all_of q) h = starred_clean 0 (Some q) s
item_clean s (value e alias) h =
    let o : names.Output = record { name = shown_name e alias; value = resolved s e } in
    All-cons IsCleanOutput o [] (clean_tree s e h) (All-nil IsCleanOutput)

outputs_clean : (s : Scope) (items : List ItemTree) → All IsCleanText (flat_map item_texts items) → AreClean (outputs_of s items)
outputs_clean s [] h = All-nil IsCleanOutput
outputs_clean s (i ∷ is) h =
    All-append IsCleanOutput (item_outputs s i) (outputs_of s is) (item_clean s i (all_left IsCleanText (item_texts i) (flat_map item_texts is) h))
    (outputs_clean s is (all_right IsCleanText (item_texts i) (flat_map item_texts is) h))

-- ---- the classes

abbrev AreClasses : List ColType → List (List Tuple) → Type 0
AreClasses kinds cs = All (AllRows kinds) cs

one_each : (kinds : List ColType) (rows : List Tuple) → AllRows kinds rows → AreClasses kinds (map (λ r. r ∷ []) rows)
one_each kinds [] h = All-nil (AllRows kinds)
one_each kinds (r ∷ rs) h =
    All-cons (AllRows kinds) (r ∷ []) (map (λ r. r ∷ []) rs)
    (All-cons (λ r. row_fits kinds r ≡ true) r [] (All-head (λ r. row_fits kinds r ≡ true) r rs h) (All-nil (λ r. row_fits kinds r ≡ true)))
    (one_each kinds rs (All-tail (λ r. row_fits kinds r ≡ true) r rs h))

by_key : (kinds : List ColType) (rows : List Tuple) (at : ℕ) (ats : List ℕ) (ks : List Tuple) → AllRows kinds rows → AreClasses kinds (map (λ k. filter (has_key (at ∷ ats) k) rows) ks)
by_key kinds rows at ats [] h = All-nil (AllRows kinds)
by_key kinds rows at ats (k ∷ ks) h =
    All-cons (AllRows kinds) (filter (has_key (at ∷ ats) k) rows) (map (λ k. filter (has_key (at ∷ ats) k) rows) ks)
    (All-filter (has_key (at ∷ ats) k) (λ r. row_fits kinds r ≡ true) rows h) (by_key kinds rows at ats ks h)

grouped_fit : (kinds : List ColType) (keys : List ℕ) (rows : List Tuple) → AllRows kinds rows → AreClasses kinds (classes_by keys rows)
grouped_fit kinds [] rows h = All-cons (AllRows kinds) rows [] h (All-nil (AllRows kinds))
grouped_fit kinds (at ∷ ats) rows h = by_key kinds rows at ats (distinct tuple_eq (map (key_of (at ∷ ats)) rows)) h

classes_fit : (kinds : List ColType) (g : Option Grouping) (rows : List Tuple) → AllRows kinds rows → AreClasses kinds (classes_of g rows)
classes_fit kinds None rows h = one_each kinds rows h
classes_fit kinds (Some g) rows h = grouped_fit kinds g.keys rows h

-- ---- the outputs

shown_of_types : (kinds : List ColType) (outs : List names.Output) (c : List Tuple) → AreClean outs → AllRows kinds c
    → AreOfTypes (map (tree_type kinds) (map (λ (o : names.Output). o.value) outs)) (outcomes_of (map value_of (over (means [] (map (λ (o : names.Output). o.value) outs)) c)))
shown_of_types kinds [] c h k = tt
shown_of_types kinds (o ∷ os) c h k =
    (tree_fits kinds o.value (All-head IsCleanOutput o os h) c (list_all-from_AllPass (row_fits kinds) c k), shown_of_types kinds os c (All-tail IsCleanOutput o os h) k)

abbrev Shows : List (Option ColType) → Output → Type 0
Shows types o = AreOfTypes types (outcomes_of o.1)

all_shown : (kinds : List ColType) (types : List (Option ColType)) (q : Core) → ((c : List Tuple) → AllRows kinds c → Shows types (output q c)) → (cs : List (List Tuple)) → AreClasses kinds cs
    → All (Shows types) (map (output q) cs)
all_shown kinds types q f [] h = All-nil (Shows types)
all_shown kinds types q f (c ∷ cs) h =
    All-cons (Shows types) (output q c) (map (output q) cs) (f c (All-head (AllRows kinds) c cs h)) (all_shown kinds types q f cs (All-tail (AllRows kinds) c cs h))

distinct_shown : (types : List (Option ColType)) (os : List Output) → All (Shows types) os → All (Shows types) (distinct output_eq os)
distinct_shown types [] h = h
distinct_shown types (o ∷ os) h =
    All-cons (Shows types) o (filter (λ p. not (output_eq o p)) (distinct output_eq os)) (All-head (Shows types) o os h)
    (All-filter (λ p. not (output_eq o p)) (Shows types) (distinct output_eq os) (distinct_shown types os (All-tail (Shows types) o os h)))

unique_shown : (types : List (Option ColType)) (b : Bool) (os : List Output) → All (Shows types) os → All (Shows types) (if b then distinct output_eq os else os)
unique_shown types true os h = distinct_shown types os h
unique_shown types false os h = h

-- the joined rows of a core are of these types, and what it shows of such rows is of those
abbrev IsTypedCore : List ColType → List (Option ColType) → Tables → Core → Type 0
IsTypedCore kinds types db q = AllRows kinds (joined q db) × ((c : List Tuple) → AllRows kinds c → Shows types (output q c))

core_fits : (kinds : List ColType) (types : List (Option ColType)) (db : Tables) (q : Core) → IsTypedCore kinds types db q → All (Shows types) (core_outputs q db)
core_fits kinds types db q h =
    let some : AllRows kinds (kept q db) = All-filter (keeps q.where_) (λ r. row_fits kinds r ≡ true) (joined q db) h.0 in
    let groups : AreClasses kinds (kept_classes q db) = All-filter (has_class q.group) (AllRows kinds) (classes q db) (classes_fit kinds q.group (kept q db) some) in
    unique_shown types q.distinct (outputs_all q db) (all_shown kinds types q h.1 (kept_classes q db) groups)

-- ---- the answer

abbrev pub IsOfTypes : List (Option ColType) → Tuple → Type 0
IsOfTypes types r = AreOfTypes types (outcomes_of r)

-- what a core shows is so, because it is of the core's types
abbrev pub LetsCore : (Tuple → Type 0) → List TableShape → CoreTree → Type 0
LetsCore P tables c = (r : Tuple) → IsOfTypes (core_types tables c) r → P r

abbrev pub Lets : (Tuple → Type 0) → List TableShape → List CoreTree → Type 0
Lets P tables [] = Unit {0}
Lets P tables (c ∷ cs) = LetsCore P tables c × Lets P tables cs

module _ (P : Tuple → Type 0) (tables : List TableShape) (sorting : names.Sorting) (db : Tables) where
  abbrev IsShown : Output → Type 0
  IsShown o = P o.1

  each_shown : (types : List (Option ColType)) → ((r : Tuple) → IsOfTypes types r → P r) → (os : List Output) → All (Shows types) os → All IsShown os
  each_shown types f [] h = All-nil IsShown
  each_shown types f (o ∷ os) h = All-cons IsShown o os (f o.1 (All-head (Shows types) o os h)) (each_shown types f os (All-tail (Shows types) o os h))

  one_fits : (number : ℕ) (c : CoreTree) → AreTypedFrom tables number (entries_of c.from) db → All IsCleanText (core_texts c) → LetsCore P tables c
      → All IsShown (core_outputs (core_by (names.core_meant tables sorting number c)) db)
  one_fits number c typed clean lets =
      let s = from_scope tables c.from in
      let kinds = column_kinds (columns_of s) in
      let q = core_by (names.core_meant tables sorting number c) in
      each_shown (core_types tables c) lets (core_outputs q db)
      (core_fits kinds (core_types tables c) db q (joined_fit tables db number c.from typed, λ rows h. shown_of_types kinds (outputs_of s c.items) rows (outputs_clean s c.items clean) h))

  cores_fit : (number : ℕ) (cs : List CoreTree) → AreTypedFrom tables number (flat_map (λ (c : CoreTree). entries_of c.from) cs) db → All IsCleanText (flat_map core_texts cs) → Lets P tables cs
      → All IsShown (flat_map (λ q. core_outputs q db) (map core_by (names.cores_meant tables sorting number cs)))
  cores_fit number [] typed clean lets = All-nil IsShown
  cores_fit number (c ∷ cs) typed clean lets =
      let later = flat_map (λ (c : CoreTree). entries_of c.from) cs in
      All-append IsShown (core_outputs (core_by (names.core_meant tables sorting number c)) db) (flat_map (λ q. core_outputs q db) (map core_by (names.cores_meant tables sorting (number + length (entries_of c.from)) cs)))
      (one_fits number c (typed_left tables db number (entries_of c.from) later typed) (all_left IsCleanText (core_texts c) (flat_map core_texts cs) clean) lets.0)
      (cores_fit (number + length (entries_of c.from)) cs (typed_right tables db number (entries_of c.from) later typed) (all_right IsCleanText (core_texts c) (flat_map core_texts cs) clean) lets.1)

limited_fits : (P : Tuple → Type 0) (limit : Option ℕ) (rows : List Tuple) → All P rows → All P (limited limit rows)
limited_fits P None rows h = h
limited_fits P (Some n) rows h = All-take P n rows h

-- each row of the answer is so, if what each core shows is
pub answer_is : (P : Tuple → Type 0) (tables : List TableShape) (q : SelectTree) (db : Tables) (answer : List Tuple) → AreTyped tables (query_entries q) db → All IsCleanText (query_texts q) → Lets P tables (cores_of q)
    → IsAnswer (query_by (meant_in tables q).form) db answer → All P answer
answer_is P tables q db answer typed clean lets is =
    let query = query_by (meant_in tables q).form in
    let IsShown = λ (o : Output). P o.1 in
    let shown : All IsShown (outputs query db) = cores_fit P tables (names.sorting_of tables q) db 0 (cores_of q) (all_typed tables db (query_entries q) typed) clean lets in
    let sorted : All IsShown is.ordered = All-permutation IsShown (outputs query db) is.ordered is.same shown in
    let listed : All P (map (λ (o : Output). o.1) is.ordered) = All-map P (λ (o : Output). o.1) is.ordered sorted in
    let paged = limited_fits P query.limit (drop query.offset (map (λ (o : Output). o.1) is.ordered)) (All-drop P query.offset (map (λ (o : Output). o.1) is.ordered) listed) in
    subst (All P) (sym is.shown) paged
