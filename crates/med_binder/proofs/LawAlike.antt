-- Where no cause of names or types stands, conjuncts compare columns of one type.
use Rattle.std.proofs.Common.{◌≡◌, ℕ, zero, suc, ◌+◌, ◌-◌, ◌<◌, Bool, true, false, List, [], ◌∷◌, ◌++◌, Option, Some, None, All, flat_map, map, take, drop, length, option_map, slice_get, codes, bytes_eq, refl, sym, ap, subst, ◌∙◌, if◌then◌else◌, arith, drop-drop, append_assoc}
use Rattle.std.proofs.lemmas.List.{length-append, length-map, map-append}
use Rattle.std.proofs.lemmas.List.Elements.{All-cons, All-nil, All-append}
use Rattle.std.proofs.lemmas.Option.{slice_get-map}
use Rattle.med_value.specs.Prelude.{Column, NoValue}
use Rattle.med_value.specs.declared.cause.Cause.{Cause}
use Rattle.med_value.specs.declared.cause.Cause.TheVariants.{UndefinedTable}
use Rattle.med_value.specs.declared.order.Comparison.{Comparison}
use Rattle.med_value.specs.declared.value.ColType.{ColType}
use Rattle.med_value.specs.declared.value.ColType.TheVariants.{Int, Text, Bool as Truth}
use Rattle.med_syntax.specs.Prelude.{Name, ExprTree, ExprTrees, EntryTree, JoinTree, inner_join, left_join, cross_join, ChainTree, CoreTree, cores_of, StatementTree, select}
use Rattle.med_syntax.specs.declared.expr.Joint.TheVariants.{Or, And}
use Rattle.med_syntax.specs.ExprTree as expr
use Rattle.tri_expr.specs.declared.expr.SetFunction.{SetFunction}
use Rattle.tri_expr.specs.Prelude.{Tree, Trees, conjunct_trees, conjuncts_of_all, column, literal, compare, count_rows, none, part, bare}
use Rattle.bind_names.specs.Prelude.{TableShape, Scope, has_entry, candidates, columns_of, kind_at, kind_among, joined_entry, chain_entries, entries_of, query_entries, entry_columns, entry_shape, from_scope, counted_causes, column_causes, name_causes, name_causes_of_all, item_name_causes, condition_name_causes, on_name_causes, joins_name_causes, chain_name_causes, group_name_causes, core_asked_causes, order_name_causes, NameCauses, one_place, function_named, aggregate_of, resolved, resolved_all, conditions_of, join_meant, with_join, joins_meant, chain_meant, chains_meant, Sorting, sorting_of, core_meant, cores_meant, meant, meant_in}
use Rattle.bind_types.specs.Typing.{type_of, comparing, as_condition, type_causes, condition_causes, condition_type_causes, item_type_causes, on_type_causes, joins_type_causes, chain_type_causes, core_written_causes, order_type_causes, written_type_causes, form_causes, output_type_causes, select_type_causes, TypeCauses}
use Rattle.med_binder.specs.Alike.{kinds_among, kinds, from_kinds, all_kinds, core_kinds, kinds_between, AreAlike, ComparesAlike, JoinAlike, ChainAlike, CoreAlike, FormAlike}
use Rattle.med_binder.proofs.LawEntries.{left_empty, right_empty, none_stands, no_asked}
use Rattle.med_binder.proofs.LawViews.{column_below, take_past}
use Rattle.med_binder.proofs.Numbers.{one_on, entries_in, drop_there, read_core, next_all, next_number}

-- ---- columns

-- the types of all that is in view
abbrev kinds_in : Scope → List ColType
kinds_in s = kinds_among (columns_of s)

counted_kind : (s : Scope) (ps : List ℕ) → counted_causes ps ≡ [] → kind_among s ps ≡ kind_at s (one_place ps)
counted_kind s [] h = absurd cc
counted_kind s (p ∷ []) h = refl
counted_kind s (p ∷ r ∷ rs) h = absurd cc

found_kind : (b : Bool) (s : Scope) (ps : List ℕ) (d : Cause) → (if b then counted_causes ps else d ∷ []) ≡ [] → kind_among s ps ≡ kind_at s (one_place ps)
found_kind true s ps d h = counted_kind s ps h
found_kind false s ps d h = absurd cc

column_kind : (s : Scope) (q : Option Name) (n : Name) → column_causes s q n ≡ [] → kind_among s (candidates s q n) ≡ kind_at s (one_place (candidates s q n))
column_kind s q n h = found_kind (has_entry s q) s (candidates s q n) UndefinedTable h

get_there : (cs : List Column) (k : ℕ) → k < length cs → (c : Column) × (slice_get cs k ≡ Some c)
get_there [] k lt = absurd (omega (arith, lt))
get_there (c ∷ cs) zero lt = (c, refl)
get_there (c ∷ cs) (suc k) lt = get_there cs k (omega (arith, lt))

-- a column in view has this type, and its expression too
record IsColumn (s : Scope) (e : ExprTree) (at : ℕ) : Type 0 where
  kind : ColType
  typed : type_of s e ≡ Some kind
  there : slice_get (kinds_in s) at ≡ Some kind

named_column : (s : Scope) (q : Option Name) (n : Name) (at : ℕ) → column_causes s q n ≡ [] → one_place (candidates s q n) ≡ at → IsColumn s (expr.column q n) at
named_column s q n at h e =
    let below = column_below s q n h in
    let found = get_there (columns_of s) (one_place (candidates s q n)) below in
    let kind_is : kind_at s (one_place (candidates s q n)) ≡ Some found.0.kind = ap (option_map (λ (c : Column). c.kind)) found.1 in
    record {
      kind = found.0.kind;
      typed = column_kind s q n h ∙ kind_is;
      there = ap (slice_get (kinds_in s)) (sym e) ∙ slice_get-map (λ (c : Column). c.kind) (columns_of s) (one_place (candidates s q n)) ∙ kind_is;
    }

-- calls are no columns

uncounted : (b : Bool) (at : ℕ) → bare (if b then count_rows else literal NoValue) ≡ column at → ⊥
uncounted true at h = absurd cc
uncounted false at h = absurd cc

unapplied : (o : Option SetFunction) (ts : Trees) (at : ℕ) → bare (aggregate_of o ts) ≡ column at → ⊥
unapplied None ts at h = absurd cc
unapplied (Some f) none at h = absurd cc
unapplied (Some f) (part a none) at h = absurd cc
unapplied (Some f) (part a (part b ts)) at h = absurd cc

place_is : (a b : ℕ) → column a ≡ column b → a ≡ b
place_is a b h = cc

written_column : (s : Scope) (e : ExprTree) (at : ℕ) → name_causes s e ≡ [] → bare (resolved s e) ≡ column at → IsColumn s e at
written_column s (expr.num n) at h b = absurd cc
written_column s (expr.negative n) at h b = absurd cc
written_column s (expr.text x) at h b = absurd cc
written_column s (expr.truth t) at h b = absurd cc
written_column s expr.null at h b = absurd cc
written_column s (expr.column q n) at h b = named_column s q n at h (place_is (one_place (candidates s q n)) at b)
written_column s (expr.call_all f) at h b = absurd (uncounted (bytes_eq f (codes "count")) at b)
written_column s (expr.call f es) at h b = absurd (unapplied (function_named f) (resolved_all s es) at b)
written_column s (expr.paren e) at h b =
    let k = written_column s e at h b in
    record { kind = k.kind; typed = k.typed; there = k.there }
written_column s (expr.minus e) at h b = absurd cc
written_column s (expr.binary op x y) at h b = absurd cc
written_column s (expr.between neg e low high) at h b = absurd cc
written_column s (expr.among neg e first others) at h b = absurd cc
written_column s (expr.like neg e x) at h b = absurd cc
written_column s (expr.compare op x y) at h b = absurd cc
written_column s (expr.tested neg e t) at h b = absurd cc
written_column s (expr.negation e) at h b = absurd cc
written_column s (expr.chain Or first others) at h b = absurd cc
written_column s (expr.chain And first others) at h b = absurd cc

-- ---- comparisons

one_kind : (k m : ColType) → comparing (Some k ∷ Some m ∷ []) ≡ [] → k ≡ m
one_kind Int Int h = refl
one_kind Int Text h = absurd cc
one_kind Int Truth h = absurd cc
one_kind Text Int h = absurd cc
one_kind Text Text h = refl
one_kind Text Truth h = absurd cc
one_kind Truth Int h = absurd cc
one_kind Truth Text h = absurd cc
one_kind Truth Truth h = refl

left_is : (op op' : Comparison) (a b c d : Tree) → compare op a b ≡ compare op' c d → a ≡ c
left_is op op' a b c d h = cc

right_is : (op op' : Comparison) (a b c d : Tree) → compare op a b ≡ compare op' c d → b ≡ d
right_is op op' a b c d h = cc

both_alike : (s : Scope) (x y : ExprTree) (a b : ℕ) → comparing (type_of s x ∷ type_of s y ∷ []) ≡ [] → IsColumn s x a → IsColumn s y b → AreAlike (kinds_in s) a b
both_alike s x y a b h k m =
    let types : comparing (Some k.kind ∷ Some m.kind ∷ []) ≡ [] =
    ap (λ (t : Option ColType). comparing (t ∷ Some m.kind ∷ [])) (sym k.typed) ∙ ap (λ (t : Option ColType). comparing (type_of s x ∷ t ∷ [])) (sym m.typed) ∙ h in
    record { kind = k.kind; left = k.there; right = m.there ∙ ap (λ (t : ColType). Some t) (sym (one_kind k.kind m.kind types)) }

compared : (s : Scope) (x y : ExprTree) (op : Comparison) → name_causes s x ≡ [] → name_causes s y ≡ [] → comparing (type_of s x ∷ type_of s y ∷ []) ≡ [] → ComparesAlike (kinds_in s) (compare op (resolved s x) (resolved s y))
compared s x y op hx hy h op' a b e =
    both_alike s x y a b h
    (written_column s x a hx (left_is op op' (bare (resolved s x)) (bare (resolved s y)) (column a) (column b) e))
    (written_column s y b hy (right_is op op' (bare (resolved s x)) (bare (resolved s y)) (column a) (column b) e))

-- ---- conjuncts

one_alike : (ks : List ColType) (t : Tree) → ComparesAlike ks t → All (ComparesAlike ks) (t ∷ [])
one_alike ks t h = All-cons (ComparesAlike ks) t [] h (All-nil (ComparesAlike ks))

two_alike : (ks : List ColType) (ts us : List Tree) → All (ComparesAlike ks) ts → All (ComparesAlike ks) us → All (ComparesAlike ks) (ts ++ us)
two_alike ks ts us h g = All-append (ComparesAlike ks) ts us h g

counted_alike : (ks : List ColType) (b : Bool) → All (ComparesAlike ks) (conjunct_trees (if b then count_rows else literal NoValue))
counted_alike ks true = one_alike ks _ (λ op a b e. absurd cc)
counted_alike ks false = one_alike ks _ (λ op a b e. absurd cc)

applied_alike : (ks : List ColType) (o : Option SetFunction) (ts : Trees) → All (ComparesAlike ks) (conjunct_trees (aggregate_of o ts))
applied_alike ks None ts = one_alike ks _ (λ op a b e. absurd cc)
applied_alike ks (Some f) none = one_alike ks _ (λ op a b e. absurd cc)
applied_alike ks (Some f) (part x none) = one_alike ks _ (λ op a b e. absurd cc)
applied_alike ks (Some f) (part x (part y ts)) = one_alike ks _ (λ op a b e. absurd cc)

mutual
  conjuncts_alike : (s : Scope) (e : ExprTree) → name_causes s e ≡ [] → type_causes s e ≡ [] → All (ComparesAlike (kinds_in s)) (conjunct_trees (resolved s e))
  conjuncts_alike s (expr.num n) h t = one_alike (kinds_in s) _ (λ op a b e. absurd cc)
  conjuncts_alike s (expr.negative n) h t = one_alike (kinds_in s) _ (λ op a b e. absurd cc)
  conjuncts_alike s (expr.text x) h t = one_alike (kinds_in s) _ (λ op a b e. absurd cc)
  conjuncts_alike s (expr.truth v) h t = one_alike (kinds_in s) _ (λ op a b e. absurd cc)
  conjuncts_alike s expr.null h t = one_alike (kinds_in s) _ (λ op a b e. absurd cc)
  conjuncts_alike s (expr.column q n) h t = one_alike (kinds_in s) _ (λ op a b e. absurd cc)
  conjuncts_alike s (expr.call_all f) h t = counted_alike (kinds_in s) (bytes_eq f (codes "count"))
  conjuncts_alike s (expr.call f es) h t = applied_alike (kinds_in s) (function_named f) (resolved_all s es)
  conjuncts_alike s (expr.paren e) h t = conjuncts_alike s e h t
  conjuncts_alike s (expr.minus e) h t = one_alike (kinds_in s) _ (λ op a b e. absurd cc)
  conjuncts_alike s (expr.binary op x y) h t = one_alike (kinds_in s) _ (λ op a b e. absurd cc)
  conjuncts_alike s (expr.between neg e low high) h t = one_alike (kinds_in s) _ (λ op a b e. absurd cc)
  conjuncts_alike s (expr.among neg e first others) h t = one_alike (kinds_in s) _ (λ op a b e. absurd cc)
  conjuncts_alike s (expr.like neg e x) h t = one_alike (kinds_in s) _ (λ op a b e. absurd cc)
  conjuncts_alike s (expr.compare op x y) h t =
      one_alike (kinds_in s) _
      (compared s x y op (left_empty (name_causes s x) (name_causes s y) h) (right_empty (name_causes s x) (name_causes s y) h)
      (right_empty (type_causes s x ++ type_causes s y) (comparing (type_of s x ∷ type_of s y ∷ [])) t))
  conjuncts_alike s (expr.tested neg e v) h t = one_alike (kinds_in s) _ (λ op a b e. absurd cc)
  conjuncts_alike s (expr.negation e) h t = one_alike (kinds_in s) _ (λ op a b e. absurd cc)
  conjuncts_alike s (expr.chain Or first others) h t = one_alike (kinds_in s) _ (λ op a b e. absurd cc)
  conjuncts_alike s (expr.chain And first others) h t =
      let own = left_empty (type_causes s first ++ as_condition (type_of s first)) (condition_causes s others) t in
      two_alike (kinds_in s) (conjunct_trees (resolved s first)) (conjuncts_of_all (resolved_all s others))
      (conjuncts_alike s first (left_empty (name_causes s first) (name_causes_of_all s others) h) (left_empty (type_causes s first) (as_condition (type_of s first)) own))
      (all_conjuncts_alike s others (right_empty (name_causes s first) (name_causes_of_all s others) h)
      (right_empty (type_causes s first ++ as_condition (type_of s first)) (condition_causes s others) t))

  all_conjuncts_alike : (s : Scope) (es : ExprTrees) → name_causes_of_all s es ≡ [] → condition_causes s es ≡ [] → All (ComparesAlike (kinds_in s)) (conjuncts_of_all (resolved_all s es))
  all_conjuncts_alike s expr.none h t = All-nil (ComparesAlike (kinds_in s))
  all_conjuncts_alike s (expr.more e es) h t =
      let own = left_empty (type_causes s e ++ as_condition (type_of s e)) (condition_causes s es) t in
      two_alike (kinds_in s) (conjunct_trees (resolved s e)) (conjuncts_of_all (resolved_all s es))
      (conjuncts_alike s e (left_empty (name_causes s e) (name_causes_of_all s es) h) (left_empty (type_causes s e) (as_condition (type_of s e)) own))
      (all_conjuncts_alike s es (right_empty (name_causes s e) (name_causes_of_all s es) h) (right_empty (type_causes s e ++ as_condition (type_of s e)) (condition_causes s es) t))

condition_alike : (s : Scope) (o : Option ExprTree) → condition_name_causes s o ≡ [] → condition_type_causes s o ≡ [] → All (ComparesAlike (kinds_in s)) (conditions_of s o)
condition_alike s None h t = All-nil (ComparesAlike (kinds_in s))
condition_alike s (Some e) h t = conjuncts_alike s e h (left_empty (type_causes s e) (as_condition (type_of s e)) t)

-- ---- the types that entries bring

every_kind : (s : Scope) → all_kinds (kinds s) ≡ kinds_in s
every_kind [] = refl
every_kind (e ∷ es) = ap (λ (l : List ColType). kinds_among e.columns ++ l) (every_kind es) ∙ sym (map-append (λ (c : Column). c.kind) e.columns (columns_of es))

kinds_both : (s : Scope) (e : TableShape) → kinds (s ++ (e ∷ [])) ≡ kinds s ++ (kinds_among e.columns ∷ [])
kinds_both [] e = refl
kinds_both (d ∷ ds) e = ap (λ (l : List (List ColType)). kinds_among d.columns ∷ l) (kinds_both ds e)

as_many_kinds : (s : Scope) → length (kinds s) ≡ length s
as_many_kinds [] = refl
as_many_kinds (e ∷ es) = ap suc (as_many_kinds es)

abbrev entry_kinds : List TableShape → List EntryTree → List (List ColType)
entry_kinds tables = map (λ (e : EntryTree). kinds_among (entry_columns tables e))

shape_kinds : (tables : List TableShape) (es : List EntryTree) → kinds (map (entry_shape tables) es) ≡ entry_kinds tables es
shape_kinds tables [] = refl
shape_kinds tables (e ∷ es) = ap (λ (l : List (List ColType)). kinds_among (entry_columns tables e) ∷ l) (shape_kinds tables es)

kinds_of_two : (tables : List TableShape) (es fs : List EntryTree) → entry_kinds tables (es ++ fs) ≡ entry_kinds tables es ++ entry_kinds tables fs
kinds_of_two tables [] fs = refl
kinds_of_two tables (e ∷ es) fs = ap (λ (l : List (List ColType)). kinds_among (entry_columns tables e) ∷ l) (kinds_of_two tables es fs)

drop_kinds : (tables : List TableShape) (es : List EntryTree) (ys : List (List ColType)) → drop (length es) (entry_kinds tables es ++ ys) ≡ ys
drop_kinds tables [] ys = refl
drop_kinds tables (e ∷ es) ys = drop_kinds tables es ys

-- ---- joins

join_alike : (kss : List (List ColType)) (first number width : ℕ) (s : Scope) (j : JoinTree) → kinds_between kss first number ≡ kinds_in s → on_name_causes s j ≡ [] → on_type_causes s j ≡ [] → JoinAlike kss first (join_meant s number width j)
join_alike kss first number width s (inner_join e on) k h t =
    subst (λ (ks : List ColType). All (ComparesAlike ks) (conjunct_trees (resolved s on))) (sym k) (conjuncts_alike s on h (left_empty (type_causes s on) (as_condition (type_of s on)) t))
join_alike kss first number width s (left_join e on) k h t =
    subst (λ (ks : List ColType). All (ComparesAlike ks) (conjunct_trees (resolved s on))) (sym k) (conjuncts_alike s on h (left_empty (type_causes s on) (as_condition (type_of s on)) t))
join_alike kss first number width s (cross_join e) k h t = tt

seen_kinds : (tables : List TableShape) (kss : List (List ColType)) (first number : ℕ) (before : Scope) (j : JoinTree) (post : List (List ColType))
    → drop first kss ≡ kinds before ++ (kinds_among (entry_columns tables (joined_entry j)) ∷ post) → number ≡ first + length before → kinds_between kss first number ≡ kinds_in (with_join tables before j)
seen_kinds tables kss first number before j post d e =
    let shape = entry_shape tables (joined_entry j) in
    let many = as_many_kinds before in
    let count : suc number - first ≡ suc (length (kinds before)) = omega (arith, e, many) in
    ap (λ (k : ℕ). all_kinds (take k (drop first kss))) count
    ∙ ap (λ (l : List (List ColType)). all_kinds (take (suc (length (kinds before))) l)) d
    ∙ ap all_kinds (take_past (kinds before) (kinds_among (entry_columns tables (joined_entry j))) post)
    ∙ ap all_kinds (sym (kinds_both before shape))
    ∙ every_kind (before ++ (shape ∷ []))

joins_alike : (tables : List TableShape) (kss : List (List ColType)) (first number : ℕ) (before : Scope) (js : List JoinTree) (post : List (List ColType))
    → drop first kss ≡ kinds before ++ (entry_kinds tables (map joined_entry js) ++ post) → number ≡ first + length before → joins_name_causes tables before js ≡ [] → joins_type_causes tables before js ≡ []
    → All (JoinAlike kss first) (joins_meant tables before number js)
joins_alike tables kss first number before [] post d e h t = All-nil (JoinAlike kss first)
joins_alike tables kss first number before (j ∷ js) post d e h t =
    let s = with_join tables before j in
    let shape = entry_shape tables (joined_entry j) in
    let own = kinds_among (entry_columns tables (joined_entry j)) in
    let rest = entry_kinds tables (map joined_entry js) ++ post in
    let moved : drop first kss ≡ kinds s ++ rest = d ∙ one_on (kinds before) own rest ∙ ap (λ (l : List (List ColType)). l ++ rest) (sym (kinds_both before shape)) in
    let longer = length-append before (shape ∷ []) in
    All-cons (JoinAlike kss first) (join_meant s number (length (entry_columns tables (joined_entry j))) j) (joins_meant tables s (suc number) js)
    (join_alike kss first number (length (entry_columns tables (joined_entry j))) s j (seen_kinds tables kss first number before j rest d e)
    (left_empty (on_name_causes s j) (joins_name_causes tables s js) h) (left_empty (on_type_causes s j) (joins_type_causes tables s js) t))
    (joins_alike tables kss first (suc number) s js post moved (omega (arith, e, longer)) (right_empty (on_name_causes s j) (joins_name_causes tables s js) h)
    (right_empty (on_type_causes s j) (joins_type_causes tables s js) t))

chain_alike : (tables : List TableShape) (kss : List (List ColType)) (number : ℕ) (c : ChainTree) (post : List (List ColType)) → drop number kss ≡ entry_kinds tables (chain_entries c) ++ post → chain_name_causes tables c ≡ []
    → chain_type_causes tables c ≡ [] → ChainAlike kss (chain_meant tables number c)
chain_alike tables kss number c post d h t = joins_alike tables kss number (suc number) (entry_shape tables c.first ∷ []) c.joins post d (omega arith) h t

chains_alike : (tables : List TableShape) (kss : List (List ColType)) (number : ℕ) (cs : List ChainTree) (post : List (List ColType)) → drop number kss ≡ entry_kinds tables (entries_of cs) ++ post
    → flat_map (chain_name_causes tables) cs ≡ [] → flat_map (chain_type_causes tables) cs ≡ [] → All (ChainAlike kss) (chains_meant tables number cs)
chains_alike tables kss number [] post d h t = All-nil (ChainAlike kss)
chains_alike tables kss number (c ∷ cs) post d h t =
    let rest = entry_kinds tables (entries_of cs) ++ post in
    let here : drop number kss ≡ entry_kinds tables (chain_entries c) ++ rest =
    d ∙ ap (λ (l : List (List ColType)). l ++ post) (kinds_of_two tables (chain_entries c) (entries_of cs)) ∙ append_assoc (entry_kinds tables (chain_entries c)) (entry_kinds tables (entries_of cs)) post in
    let behind = sym (drop-drop (length (chain_entries c)) number kss) ∙ ap (drop (length (chain_entries c))) here ∙ drop_kinds tables (chain_entries c) rest in
    All-cons (ChainAlike kss) (chain_meant tables number c) (chains_meant tables (number + length (chain_entries c)) cs)
    (chain_alike tables kss number c rest here (left_empty (chain_name_causes tables c) (flat_map (chain_name_causes tables) cs) h)
    (left_empty (chain_type_causes tables c) (flat_map (chain_type_causes tables) cs) t))
    (chains_alike tables kss (number + length (chain_entries c)) cs post behind (right_empty (chain_name_causes tables c) (flat_map (chain_name_causes tables) cs) h)
    (right_empty (chain_type_causes tables c) (flat_map (chain_type_causes tables) cs) t))

-- ---- cores

core_alike : (tables : List TableShape) (kss before post : List (List ColType)) (sorting : Sorting) (number : ℕ) (c : CoreTree) → kss ≡ before ++ (entry_kinds tables (entries_of c.from) ++ post) → number ≡ length before
    → core_asked_causes tables c ≡ [] → core_written_causes tables c ≡ [] → CoreAlike kss (core_meant tables sorting number c)
core_alike tables kss before post sorting number c e n h t =
    let s = from_scope tables c.from in
    let own = entry_kinds tables (entries_of c.from) in
    let chain_part = flat_map (chain_name_causes tables) c.from in
    let item_part = flat_map (item_name_causes s) c.items in
    let where_part = condition_name_causes s c.condition in
    let later_part = flat_map (group_name_causes s) c.groups ++ condition_name_causes s c.having in
    let rest1 = right_empty chain_part (item_part ++ (where_part ++ later_part)) h in
    let rest2 = right_empty item_part (where_part ++ later_part) rest1 in
    let chain_types = flat_map (chain_type_causes tables) c.from in
    let item_types = flat_map (item_type_causes s) c.items in
    let where_types = condition_type_causes s c.condition in
    let later_types = condition_type_causes s c.having in
    let types1 = right_empty chain_types (item_types ++ (where_types ++ later_types)) t in
    let types2 = right_empty item_types (where_types ++ later_types) types1 in
    let seen : all_kinds (core_kinds kss (core_meant tables sorting number c)) ≡ kinds_in s =
    ap all_kinds (read_core [] kss before own post tables sorting number c e n (length-map (entries_of c.from) (λ (e : EntryTree). kinds_among (entry_columns tables e))))
    ∙ ap all_kinds (sym (shape_kinds tables (entries_of c.from))) ∙ every_kind s in
    record {
      joins = chains_alike tables kss number c.from post (drop_there kss before (own ++ post) number e n) (left_empty chain_part (item_part ++ (where_part ++ later_part)) h)
          (left_empty chain_types (item_types ++ (where_types ++ later_types)) t);
      conditions = subst (λ (ks : List ColType). All (ComparesAlike ks) (conditions_of s c.condition)) (sym seen)
          (condition_alike s c.condition (left_empty where_part later_part rest2) (left_empty where_types later_types types2));
    }

cores_alike : (tables : List TableShape) (kss before : List (List ColType)) (sorting : Sorting) (number : ℕ) (cs : List CoreTree) → kss ≡ before ++ entry_kinds tables (entries_in cs) → number ≡ length before
    → flat_map (core_asked_causes tables) cs ≡ [] → flat_map (core_written_causes tables) cs ≡ [] → All (CoreAlike kss) (cores_meant tables sorting number cs)
cores_alike tables kss before sorting number [] e n h t = All-nil (CoreAlike kss)
cores_alike tables kss before sorting number (c ∷ cs) e n h t =
    let own = entry_kinds tables (entries_of c.from) in
    let rest = entry_kinds tables (entries_in cs) in
    let here : kss ≡ before ++ (own ++ rest) = e ∙ ap (λ (l : List (List ColType)). before ++ l) (kinds_of_two tables (entries_of c.from) (entries_in cs)) in
    All-cons (CoreAlike kss) (core_meant tables sorting number c) (cores_meant tables sorting (number + length (entries_of c.from)) cs)
    (core_alike tables kss before rest sorting number c here n (left_empty (core_asked_causes tables c) (flat_map (core_asked_causes tables) cs) h)
    (left_empty (core_written_causes tables c) (flat_map (core_written_causes tables) cs) t))
    (cores_alike tables kss (before ++ own) sorting (number + length (entries_of c.from)) cs (next_all kss before own rest here)
    (next_number before own number (length (entries_of c.from)) n (length-map (entries_of c.from) (λ (e : EntryTree). kinds_among (entry_columns tables e))))
    (right_empty (core_asked_causes tables c) (flat_map (core_asked_causes tables) cs) h) (right_empty (core_written_causes tables c) (flat_map (core_written_causes tables) cs) t))

-- ---- statements

pub form_alike : (tables : List TableShape) (statement : StatementTree) → ((c : Cause) → NameCauses tables statement c → ⊥) → ((c : Cause) → TypeCauses tables statement c → ⊥)
    → FormAlike (from_kinds tables statement) (meant tables statement).form
form_alike tables (select q) n m =
    let asked = left_empty (flat_map (core_asked_causes tables) (cores_of q)) (order_name_causes tables q) (no_asked tables q n) in
    let later = form_causes (meant_in tables q).form ++ output_type_causes tables q in
    let typed = left_empty (written_type_causes tables q) later (none_stands (select_type_causes tables q) m) in
    cores_alike tables (from_kinds tables (select q)) [] (sorting_of tables q) 0 (cores_of q) (shape_kinds tables (query_entries q)) refl asked
    (left_empty (flat_map (core_written_causes tables) (cores_of q)) (order_type_causes tables q) typed)
