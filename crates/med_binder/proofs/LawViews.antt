-- Where no cause of names stands, each column is one of those in view.
use Rattle.std.proofs.Common.{◌≡◌, ℕ, suc, ◌+◌, ◌-◌, ◌<◌, ◌≤◌, Bool, true, false, List, [], ◌∷◌, ◌++◌, Option, Some, None, All, flat_map, map, filter, take, drop, sum, length, codes, bytes_eq, refl, sym, ap, subst, ◌∙◌, if◌then◌else◌, arith, length-append, drop-drop, append_assoc, zero}
use Rattle.std.proofs.lemmas.List.Elements.{All-cons, All-nil, All-append, All-head, All-tail, All-drop, All-filter, All-map}
use Rattle.std.proofs.lemmas.List.Sums.{sum_by-cons}
use Rattle.med_value.specs.Prelude.{Column, NoValue}
use Rattle.med_value.specs.declared.cause.Cause.{Cause}
use Rattle.med_value.specs.declared.cause.Cause.TheVariants.{UndefinedTable}
use Rattle.med_syntax.specs.Prelude.{Name, ExprTree, ExprTrees}
use Rattle.med_syntax.specs.declared.expr.Joint.{Joint}
use Rattle.med_syntax.specs.declared.expr.Joint.TheVariants.{Or, And}
use Rattle.med_syntax.specs.ExprTree as expr
use Rattle.med_syntax.specs.QueryTree.{ItemTree, all, all_of as all_of_entry, value, EntryTree, JoinTree, inner_join, left_join, cross_join, ChainTree, GroupTree, KeyTree, CoreTree, cores_of, StatementTree, select}
use Rattle.tri_expr.specs.declared.expr.SetFunction.{SetFunction}
use Rattle.tri_expr.specs.Prelude.{Tree, Trees, conjunct_trees, conjuncts_of_all, column, parameter, literal, compare, compute, negate, all_of, some_of, opposite, asks, between, within, matches, parenthesised, count_rows, aggregate, none, part, arguments_in, arguments_in_all}
use Rattle.med_query.specs.Form.{GroupForm}
use Rattle.bind_names.specs.Prelude.{TableShape, Scope, is_meant, has_entry, places_from, candidates_from, candidates, columns_of, joined_entry, chain_entries, entries_of, query_entries, entry_columns, entry_shape, from_scope, counted_causes, column_causes, name_causes, name_causes_of_all, item_name_causes, condition_name_causes, on_name_causes, joins_name_causes, chain_name_causes, group_name_causes, distinct_causes, sort_key_causes, key_name_causes, core_asked_causes, place_name_causes, order_name_causes, NameCauses, Output, one_place, joined, function_named, aggregate_of, resolved, resolved_all, columns_from, starred, item_outputs, outputs_of, conditions_of, SortKey, position, output_name, expression, is_named, sort_key, first_value, sorted_by, key_meant, join_meant, with_join, joins_meant, chain_meant, chains_meant, group_place, is_empty, groups_rows, group_meant, key_place, core_outputs, output_values, Sorting, by_keys, by_places, item_at, keys_sorting, core_meant, cores_meant, meant}
use Rattle.med_binder.specs.Within.{IsWithin, AreWithin, widths, widths_of, width_between, JoinWithin, ChainWithin, GroupWithin, CoreWithin, FormWithin}
use Rattle.med_binder.specs.Counted.{core_widths}
use Rattle.med_binder.proofs.LawEntries.{left_empty, right_empty, no_asked}
use Rattle.med_binder.proofs.Numbers.{entry_width, entry_widths, shape_widths, widths_of_two, one_on, entries_in, drop_there, core_wide, next_all, next_number}
use Rattle.std.proofs.lemmas.List.{length-map}

-- ---- places

abbrev AllBelow : ℕ → List ℕ → Type 0
AllBelow w [] = Unit {0}
AllBelow w (p ∷ ps) = (p < w) × AllBelow w ps

below_both : (w : ℕ) (ps qs : List ℕ) → AllBelow w ps → AllBelow w qs → AllBelow w (ps ++ qs)
below_both w [] qs a b = b
below_both w (p ∷ ps) qs a b = (a.0, below_both w ps qs a.1 b)

below_more : (v w : ℕ) (ps : List ℕ) → v ≤ w → AllBelow v ps → AllBelow w ps
below_more v w [] le a = tt
below_more v w (p ∷ ps) le a = (let lt = a.0 in omega (arith, lt, le), below_more v w ps le a.1)

below_if : (b : Bool) (w at : ℕ) (ps : List ℕ) → at < w → AllBelow w ps → AllBelow w (if b then at ∷ ps else ps)
below_if true w at ps lt a = (lt, a)
below_if false w at ps lt a = a

below_meant : (b : Bool) (w : ℕ) (ps : List ℕ) → AllBelow w ps → AllBelow w (if b then ps else [])
below_meant true w ps a = a
below_meant false w ps a = tt

places_below : (at : ℕ) (cs : List Column) (name : Name) → AllBelow (at + length cs) (places_from at cs name)
places_below at [] name = tt
places_below at (c ∷ cs) name =
    below_if (bytes_eq c.name name) (at + length (c ∷ cs)) at (places_from (suc at) cs name) (omega arith) (below_more (suc at + length cs) (at + length (c ∷ cs)) (places_from (suc at) cs name) (omega arith) (places_below (suc at) cs name))

candidates_below : (at : ℕ) (s : Scope) (q : Option Name) (name : Name) → AllBelow (at + length (columns_of s)) (candidates_from at s q name)
candidates_below at [] q name = tt
candidates_below at (e ∷ es) q name =
    let total = length-append e.columns (columns_of es) in
    let width = at + length (e.columns ++ columns_of es) in
    below_both width (if is_meant q e then places_from at e.columns name else []) (candidates_from (at + length e.columns) es q name)
    (below_meant (is_meant q e) width (places_from at e.columns name) (below_more (at + length e.columns) width (places_from at e.columns name) (omega (arith, total)) (places_below at e.columns name)))
    (below_more (at + length e.columns + length (columns_of es)) width (candidates_from (at + length e.columns) es q name) (omega (arith, total)) (candidates_below (at + length e.columns) es q name))

first_below : (w : ℕ) (ps : List ℕ) → counted_causes ps ≡ [] → AllBelow w ps → one_place ps < w
first_below w [] h a = absurd cc
first_below w (p ∷ []) h a = a.0
first_below w (p ∷ r ∷ rs) h a = absurd cc

found_below : (b : Bool) (w : ℕ) (ps : List ℕ) (d : Cause) → (if b then counted_causes ps else d ∷ []) ≡ [] → AllBelow w ps → one_place ps < w
found_below true w ps d h a = first_below w ps h a
found_below false w ps d h a = absurd cc

pub column_below : (s : Scope) (q : Option Name) (n : Name) → column_causes s q n ≡ [] → one_place (candidates s q n) < length (columns_of s)
column_below s q n h = found_below (has_entry s q) (length (columns_of s)) (candidates s q n) UndefinedTable h (below_more (0 + length (columns_of s)) (length (columns_of s)) (candidates s q n) (omega arith) (candidates_below 0 s q n))

-- ---- expressions

joined_within : (k : ℕ) (j : Joint) (ts : Trees) → AreWithin k ts → IsWithin k (joined j ts)
joined_within k Or ts h = h
joined_within k And ts h = h

counted_within : (k : ℕ) (b : Bool) → IsWithin k (if b then count_rows else literal NoValue)
counted_within k true = tt
counted_within k false = tt

applied_within : (k : ℕ) (o : Option SetFunction) (ts : Trees) → AreWithin k ts → IsWithin k (aggregate_of o ts)
applied_within k None ts h = tt
applied_within k (Some f) none h = tt
applied_within k (Some f) (part a none) h = h.0
applied_within k (Some f) (part a (part b ts)) h = tt

mutual
  named_within : (s : Scope) (e : ExprTree) → name_causes s e ≡ [] → IsWithin (length (columns_of s)) (resolved s e)
  named_within s (expr.num n) h = tt
  named_within s (expr.negative n) h = tt
  named_within s (expr.text x) h = tt
  named_within s (expr.truth b) h = tt
  named_within s expr.null h = tt
  named_within s (expr.column q n) h = column_below s q n h
  named_within s (expr.call_all f) h = counted_within (length (columns_of s)) (bytes_eq f (codes "count"))
  named_within s (expr.call f es) h = applied_within (length (columns_of s)) (function_named f) (resolved_all s es) (all_named_within s es h)
  named_within s (expr.paren e) h = named_within s e h
  named_within s (expr.minus e) h = named_within s e h
  named_within s (expr.binary op a b) h = (named_within s a (left_empty (name_causes s a) (name_causes s b) h), named_within s b (right_empty (name_causes s a) (name_causes s b) h))
  named_within s (expr.between neg e low high) h =
      let rest = right_empty (name_causes s e) (name_causes s low ++ name_causes s high) h in
      (named_within s e (left_empty (name_causes s e) (name_causes s low ++ name_causes s high) h), named_within s low (left_empty (name_causes s low) (name_causes s high) rest), named_within s high (right_empty (name_causes s low) (name_causes s high) rest))
  named_within s (expr.among neg e first others) h =
      let rest = right_empty (name_causes s e) (name_causes s first ++ name_causes_of_all s others) h in
      (named_within s e (left_empty (name_causes s e) (name_causes s first ++ name_causes_of_all s others) h), (named_within s first (left_empty (name_causes s first) (name_causes_of_all s others) rest), all_named_within s others (right_empty (name_causes s first) (name_causes_of_all s others) rest)))
  named_within s (expr.like neg e x) h = named_within s e h
  named_within s (expr.compare op a b) h = (named_within s a (left_empty (name_causes s a) (name_causes s b) h), named_within s b (right_empty (name_causes s a) (name_causes s b) h))
  named_within s (expr.tested neg e t) h = named_within s e h
  named_within s (expr.negation e) h = named_within s e h
  named_within s (expr.chain j first others) h =
      joined_within (length (columns_of s)) j (part (resolved s first) (resolved_all s others))
      (named_within s first (left_empty (name_causes s first) (name_causes_of_all s others) h), all_named_within s others (right_empty (name_causes s first) (name_causes_of_all s others) h))

  all_named_within : (s : Scope) (es : ExprTrees) → name_causes_of_all s es ≡ [] → AreWithin (length (columns_of s)) (resolved_all s es)
  all_named_within s expr.none h = tt
  all_named_within s (expr.more e es) h = (named_within s e (left_empty (name_causes s e) (name_causes_of_all s es) h), all_named_within s es (right_empty (name_causes s e) (name_causes_of_all s es) h))

-- ---- lists of expressions

one_within : (k : ℕ) (t : Tree) → IsWithin k t → All (IsWithin k) (t ∷ [])
one_within k t h = All-cons (IsWithin k) t [] h (All-nil (IsWithin k))

two_within : (k : ℕ) (ts us : List Tree) → All (IsWithin k) ts → All (IsWithin k) us → All (IsWithin k) (ts ++ us)
two_within k ts us h g = All-append (IsWithin k) ts us h g

mutual
  conjuncts_within : (k : ℕ) (t : Tree) → IsWithin k t → All (IsWithin k) (conjunct_trees t)
  conjuncts_within k (all_of ts) h = all_conjuncts_within k ts h
  conjuncts_within k (parenthesised a) h = conjuncts_within k a h
  conjuncts_within k (column at) h = one_within k (column at) h
  conjuncts_within k (parameter n) h = one_within k (parameter n) h
  conjuncts_within k (literal v) h = one_within k (literal v) h
  conjuncts_within k (compare op a b) h = one_within k (compare op a b) h
  conjuncts_within k (compute op a b) h = one_within k (compute op a b) h
  conjuncts_within k (negate a) h = one_within k (negate a) h
  conjuncts_within k (some_of ts) h = one_within k (some_of ts) h
  conjuncts_within k (opposite a) h = one_within k (opposite a) h
  conjuncts_within k (asks t negative a) h = one_within k (asks t negative a) h
  conjuncts_within k (between negative x a b) h = one_within k (between negative x a b) h
  conjuncts_within k (within negative x ts) h = one_within k (within negative x ts) h
  conjuncts_within k (matches negative x pattern) h = one_within k (matches negative x pattern) h
  conjuncts_within k count_rows h = one_within k count_rows h
  conjuncts_within k (aggregate function a) h = one_within k (aggregate function a) h

  all_conjuncts_within : (k : ℕ) (ts : Trees) → AreWithin k ts → All (IsWithin k) (conjuncts_of_all ts)
  all_conjuncts_within k none h = All-nil (IsWithin k)
  all_conjuncts_within k (part t ts) h = two_within k (conjunct_trees t) (conjuncts_of_all ts) (conjuncts_within k t h.0) (all_conjuncts_within k ts h.1)

mutual
  arguments_within : (k : ℕ) (t : Tree) → IsWithin k t → All (IsWithin k) (arguments_in t)
  arguments_within k (column at) h = All-nil (IsWithin k)
  arguments_within k (parameter n) h = All-nil (IsWithin k)
  arguments_within k (literal v) h = All-nil (IsWithin k)
  arguments_within k (compare op a b) h = two_within k (arguments_in a) (arguments_in b) (arguments_within k a h.0) (arguments_within k b h.1)
  arguments_within k (compute op a b) h = two_within k (arguments_in a) (arguments_in b) (arguments_within k a h.0) (arguments_within k b h.1)
  arguments_within k (negate a) h = arguments_within k a h
  arguments_within k (all_of ts) h = all_arguments_within k ts h
  arguments_within k (some_of ts) h = all_arguments_within k ts h
  arguments_within k (opposite a) h = arguments_within k a h
  arguments_within k (asks t negative a) h = arguments_within k a h
  arguments_within k (between negative x a b) h =
      two_within k (arguments_in x) (arguments_in a ++ arguments_in b) (arguments_within k x h.0) (two_within k (arguments_in a) (arguments_in b) (arguments_within k a h.1) (arguments_within k b h.2))
  arguments_within k (within negative x ts) h = two_within k (arguments_in x) (arguments_in_all ts) (arguments_within k x h.0) (all_arguments_within k ts h.1)
  arguments_within k (matches negative x pattern) h = arguments_within k x h
  arguments_within k (parenthesised a) h = arguments_within k a h
  arguments_within k count_rows h = All-nil (IsWithin k)
  arguments_within k (aggregate function a) h = All-cons (IsWithin k) a (arguments_in a) h (arguments_within k a h)

  all_arguments_within : (k : ℕ) (ts : Trees) → AreWithin k ts → All (IsWithin k) (arguments_in_all ts)
  all_arguments_within k none h = All-nil (IsWithin k)
  all_arguments_within k (part t ts) h = two_within k (arguments_in t) (arguments_in_all ts) (arguments_within k t h.0) (all_arguments_within k ts h.1)

each_argument_within : (k : ℕ) (ts : List Tree) → All (IsWithin k) ts → All (IsWithin k) (flat_map arguments_in ts)
each_argument_within k [] h = All-nil (IsWithin k)
each_argument_within k (t ∷ ts) h =
    two_within k (arguments_in t) (flat_map arguments_in ts) (arguments_within k t (All-head (IsWithin k) t ts h)) (each_argument_within k ts (All-tail (IsWithin k) t ts h))

condition_within : (s : Scope) (o : Option ExprTree) → condition_name_causes s o ≡ [] → All (IsWithin (length (columns_of s))) (conditions_of s o)
condition_within s None h = All-nil (IsWithin (length (columns_of s)))
condition_within s (Some e) h = conjuncts_within (length (columns_of s)) (resolved s e) (named_within s e h)

-- ---- select lists

abbrev ShowsWithin : ℕ → Output → Type 0
ShowsWithin k o = IsWithin k o.value

outputs_both : (k : ℕ) (os ps : List Output) → All (ShowsWithin k) os → All (ShowsWithin k) ps → All (ShowsWithin k) (os ++ ps)
outputs_both k os ps h g = All-append (ShowsWithin k) os ps h g

outputs_if : (b : Bool) (k : ℕ) (os : List Output) → All (ShowsWithin k) os → All (ShowsWithin k) (if b then os else [])
outputs_if true k os h = h
outputs_if false k os h = All-nil (ShowsWithin k)

columns_within : (k at : ℕ) (cs : List Column) → at + length cs ≤ k → All (ShowsWithin k) (columns_from at cs)
columns_within k at [] le = All-nil (ShowsWithin k)
columns_within k at (c ∷ cs) le = All-cons (ShowsWithin k) (record { name = c.name; value = column at }) (columns_from (suc at) cs) (omega (arith, le)) (columns_within k (suc at) cs (omega (arith, le)))

starred_within : (k at : ℕ) (q : Option Name) (s : Scope) → at + length (columns_of s) ≤ k → All (ShowsWithin k) (starred at q s)
starred_within k at q [] le = All-nil (ShowsWithin k)
starred_within k at q (e ∷ es) le =
    let total = length-append e.columns (columns_of es) in
    outputs_both k (if is_meant q e then columns_from at e.columns else []) (starred (at + length e.columns) q es)
    (outputs_if (is_meant q e) k (columns_from at e.columns) (columns_within k at e.columns (omega (arith, le, total)))) (starred_within k (at + length e.columns) q es (omega (arith, le, total)))

item_within : (s : Scope) (item : ItemTree) → item_name_causes s item ≡ [] → All (ShowsWithin (length (columns_of s))) (item_outputs s item)
item_within s all h = starred_within (length (columns_of s)) 0 None s (omega arith)
item_within s (all_of_entry q) h = starred_within (length (columns_of s)) 0 (Some q) s (omega arith)
item_within s (value e alias) h = All-cons (ShowsWithin (length (columns_of s))) _ [] (named_within s e h) (All-nil (ShowsWithin (length (columns_of s))))

outputs_within : (s : Scope) (items : List ItemTree) → flat_map (item_name_causes s) items ≡ [] → All (ShowsWithin (length (columns_of s))) (outputs_of s items)
outputs_within s [] h = All-nil (ShowsWithin (length (columns_of s)))
outputs_within s (i ∷ is) h =
    outputs_both (length (columns_of s)) (item_outputs s i) (outputs_of s is) (item_within s i (left_empty (item_name_causes s i) (flat_map (item_name_causes s) is) h)) (outputs_within s is (right_empty (item_name_causes s i) (flat_map (item_name_causes s) is) h))

-- ---- keys of ORDER BY

first_within : (k : ℕ) (os : List Output) → All (ShowsWithin k) os → IsWithin k (first_value os)
first_within k [] h = tt
first_within k (o ∷ os) h = All-head (ShowsWithin k) o os h

sorted_within : (s : Scope) (unique : Bool) (outs : List Output) (k : SortKey) → All (ShowsWithin (length (columns_of s))) outs → sort_key_causes s unique outs k ≡ [] → IsWithin (length (columns_of s)) (sorted_by s outs k)
sorted_within s unique outs (position n) a h = first_within (length (columns_of s)) (drop (n - 1) outs) (All-drop (ShowsWithin (length (columns_of s))) (n - 1) outs a)
sorted_within s unique outs (output_name n) a h = first_within (length (columns_of s)) (filter (is_named n) outs) (All-filter (is_named n) (ShowsWithin (length (columns_of s))) outs a)
sorted_within s unique outs (expression e) a h = named_within s e (left_empty (name_causes s e) (distinct_causes unique outs (resolved s e)) h)

keys_within : (s : Scope) (unique : Bool) (outs : List Output) (ks : List KeyTree) → All (ShowsWithin (length (columns_of s))) outs → flat_map (key_name_causes s unique outs) ks ≡ [] → All (IsWithin (length (columns_of s))) (map (key_meant s outs) ks)
keys_within s unique outs [] a h = All-nil (IsWithin (length (columns_of s)))
keys_within s unique outs (k ∷ ks) a h =
    All-cons (IsWithin (length (columns_of s))) (key_meant s outs k) (map (key_meant s outs) ks)
    (sorted_within s unique outs (sort_key outs k.key) a (left_empty (key_name_causes s unique outs k) (flat_map (key_name_causes s unique outs) ks) h))
    (keys_within s unique outs ks a (right_empty (key_name_causes s unique outs k) (flat_map (key_name_causes s unique outs) ks) h))

-- ---- groups

group_places_within : (s : Scope) (gs : List GroupTree) → flat_map (group_name_causes s) gs ≡ [] → All (λ (place : ℕ). place < length (columns_of s)) (map (group_place s) gs)
group_places_within s [] h = All-nil (λ (place : ℕ). place < length (columns_of s))
group_places_within s (g ∷ gs) h =
    All-cons (λ (place : ℕ). place < length (columns_of s)) (group_place s g) (map (group_place s) gs)
    (column_below s g.qualifier g.column (left_empty (group_name_causes s g) (flat_map (group_name_causes s) gs) h))
    (group_places_within s gs (right_empty (group_name_causes s g) (flat_map (group_name_causes s) gs) h))

group_if : (b : Bool) (k : ℕ) (g : GroupForm) → GroupWithin k (Some g) → GroupWithin k (if b then Some g else None)
group_if true k g h = h
group_if false k g h = tt

group_within : (s : Scope) (q : CoreTree) (shown : List Tree) → flat_map (group_name_causes s) q.groups ≡ [] → condition_name_causes s q.having ≡ [] → All (IsWithin (length (columns_of s))) shown
    → GroupWithin (length (columns_of s)) (group_meant s q shown)
group_within s q shown gh hh a =
    let having = conditions_of s q.having in
    let inside = condition_within s q.having hh in
    group_if (groups_rows q shown) (length (columns_of s)) (record { keys = map (group_place s) q.groups; arguments = flat_map arguments_in (having ++ shown); having = having })
    (group_places_within s q.groups gh, each_argument_within (length (columns_of s)) (having ++ shown) (two_within (length (columns_of s)) having shown inside a), inside)

-- ---- widths of entries

total : (s : Scope) → length (columns_of s) ≡ sum (widths s)
total [] = refl
total (e ∷ es) = length-append e.columns (columns_of es) ∙ ap (λ n. length e.columns + n) (total es) ∙ sym (sum_by-cons (λ x. x) (length e.columns) (widths es))

widths_both : (s : Scope) (e : TableShape) → widths (s ++ (e ∷ [])) ≡ widths s ++ (length e.columns ∷ [])
widths_both [] e = refl
widths_both (d ∷ ds) e = ap (λ l. length d.columns ∷ l) (widths_both ds e)

pub as_many_widths : (s : Scope) → length (widths s) ≡ length s
as_many_widths [] = refl
as_many_widths (e ∷ es) = ap suc (as_many_widths es)

pub take_past : {X : Type 0} (xs : List X) (y : X) (ys : List X) → take (suc (length xs)) (xs ++ (y ∷ ys)) ≡ xs ++ (y ∷ [])
take_past [] y ys = refl
take_past (x ∷ xs) y ys = ap (λ l. x ∷ l) (take_past xs y ys)

drop_past : (tables : List TableShape) (es : List EntryTree) (ys : List ℕ) → drop (length es) (entry_widths tables es ++ ys) ≡ ys
drop_past tables [] ys = refl
drop_past tables (e ∷ es) ys = drop_past tables es ys

-- ---- joins

join_within : (ws : List ℕ) (first number width : ℕ) (s : Scope) (j : JoinTree) → width_between ws first number ≡ length (columns_of s) → on_name_causes s j ≡ [] → JoinWithin ws first (join_meant s number width j)
join_within ws first number width s (inner_join e on) w h = conjuncts_within (width_between ws first number) (resolved s on) (subst (λ k. IsWithin k (resolved s on)) (sym w) (named_within s on h))
join_within ws first number width s (left_join e on) w h = conjuncts_within (width_between ws first number) (resolved s on) (subst (λ k. IsWithin k (resolved s on)) (sym w) (named_within s on h))
join_within ws first number width s (cross_join e) w h = tt

seen_width : (tables : List TableShape) (ws : List ℕ) (first number : ℕ) (before : Scope) (j : JoinTree) (post : List ℕ)
    → drop first ws ≡ widths before ++ (entry_width tables (joined_entry j) ∷ post) → number ≡ first + length before → width_between ws first number ≡ length (columns_of (with_join tables before j))
seen_width tables ws first number before j post d e =
    let shape = entry_shape tables (joined_entry j) in
    let many = as_many_widths before in
    let count : suc number - first ≡ suc (length (widths before)) = omega (arith, e, many) in
    ap (λ (k : ℕ). sum (take k (drop first ws))) count
    ∙ ap (λ (l : List ℕ). sum (take (suc (length (widths before))) l)) d
    ∙ ap sum (take_past (widths before) (entry_width tables (joined_entry j)) post)
    ∙ ap sum (sym (widths_both before shape))
    ∙ sym (total (before ++ (shape ∷ [])))

joins_within : (tables : List TableShape) (ws : List ℕ) (first number : ℕ) (before : Scope) (js : List JoinTree) (post : List ℕ)
    → drop first ws ≡ widths before ++ (entry_widths tables (map joined_entry js) ++ post) → number ≡ first + length before → joins_name_causes tables before js ≡ []
    → All (JoinWithin ws first) (joins_meant tables before number js)
joins_within tables ws first number before [] post d e h = All-nil (JoinWithin ws first)
joins_within tables ws first number before (j ∷ js) post d e h =
    let s = with_join tables before j in
    let shape = entry_shape tables (joined_entry j) in
    let width = entry_width tables (joined_entry j) in
    let rest = entry_widths tables (map joined_entry js) ++ post in
    let moved : drop first ws ≡ widths s ++ rest = d ∙ one_on (widths before) width rest ∙ ap (λ (l : List ℕ). l ++ rest) (sym (widths_both before shape)) in
    let longer = length-append before (shape ∷ []) in
    All-cons (JoinWithin ws first) (join_meant s number (length (entry_columns tables (joined_entry j))) j) (joins_meant tables s (suc number) js)
    (join_within ws first number (length (entry_columns tables (joined_entry j))) s j (seen_width tables ws first number before j rest d e) (left_empty (on_name_causes s j) (joins_name_causes tables s js) h))
    (joins_within tables ws first (suc number) s js post moved (omega (arith, e, longer)) (right_empty (on_name_causes s j) (joins_name_causes tables s js) h))

chain_within : (tables : List TableShape) (ws : List ℕ) (number : ℕ) (c : ChainTree) (post : List ℕ) → drop number ws ≡ entry_widths tables (chain_entries c) ++ post → chain_name_causes tables c ≡ []
    → ChainWithin ws (chain_meant tables number c)
chain_within tables ws number c post d h = joins_within tables ws number (suc number) (entry_shape tables c.first ∷ []) c.joins post d (omega arith) h

chains_within : (tables : List TableShape) (ws : List ℕ) (number : ℕ) (cs : List ChainTree) (post : List ℕ) → drop number ws ≡ entry_widths tables (entries_of cs) ++ post → flat_map (chain_name_causes tables) cs ≡ []
    → All (ChainWithin ws) (chains_meant tables number cs)
chains_within tables ws number [] post d h = All-nil (ChainWithin ws)
chains_within tables ws number (c ∷ cs) post d h =
    let rest = entry_widths tables (entries_of cs) ++ post in
    let here : drop number ws ≡ entry_widths tables (chain_entries c) ++ rest =
    d ∙ ap (λ (l : List ℕ). l ++ post) (widths_of_two tables (chain_entries c) (entries_of cs)) ∙ append_assoc (entry_widths tables (chain_entries c)) (entry_widths tables (entries_of cs)) post in
    let behind = sym (drop-drop (length (chain_entries c)) number ws) ∙ ap (drop (length (chain_entries c))) here ∙ drop_past tables (chain_entries c) rest in
    All-cons (ChainWithin ws) (chain_meant tables number c) (chains_meant tables (number + length (chain_entries c)) cs)
    (chain_within tables ws number c rest here (left_empty (chain_name_causes tables c) (flat_map (chain_name_causes tables) cs) h))
    (chains_within tables ws (number + length (chain_entries c)) cs post behind (right_empty (chain_name_causes tables c) (flat_map (chain_name_causes tables) cs) h))

-- ---- cores

shows_within : (tables : List TableShape) (c : CoreTree) → core_asked_causes tables c ≡ [] → All (ShowsWithin (length (columns_of (from_scope tables c.from)))) (core_outputs tables c)
shows_within tables c h =
    let s = from_scope tables c.from in
    let item_part = flat_map (item_name_causes s) c.items in
    let later = condition_name_causes s c.condition ++ (flat_map (group_name_causes s) c.groups ++ condition_name_causes s c.having) in
    outputs_within s c.items (left_empty item_part later (right_empty (flat_map (chain_name_causes tables) c.from) (item_part ++ later) h))

items_within : (tables : List TableShape) (c : CoreTree) → core_asked_causes tables c ≡ [] → All (IsWithin (length (columns_of (from_scope tables c.from)))) (output_values (core_outputs tables c))
items_within tables c h = All-map (IsWithin (length (columns_of (from_scope tables c.from)))) (λ (o : Output). o.value) (core_outputs tables c) (shows_within tables c h)

item_in : (k : ℕ) (items : List Tree) (place : ℕ) → All (IsWithin k) items → IsWithin k (item_at items place)
item_in k [] place h = tt
item_in k (t ∷ ts) zero h = All-head (IsWithin k) t ts h
item_in k (t ∷ ts) (suc place) h = item_in k ts place (All-tail (IsWithin k) t ts h)

placed_within : (k : ℕ) (items : List Tree) (places : List ℕ) → All (IsWithin k) items → All (IsWithin k) (map (item_at items) places)
placed_within k items [] h = All-nil (IsWithin k)
placed_within k items (p ∷ ps) h = All-cons (IsWithin k) (item_at items p) (map (item_at items) ps) (item_in k items p h) (placed_within k items ps h)

core_within : (tables : List TableShape) (ws before post : List ℕ) (sorting : Sorting) (number : ℕ) (c : CoreTree) → ws ≡ before ++ (entry_widths tables (entries_of c.from) ++ post) → number ≡ length before
    → core_asked_causes tables c ≡ [] → All (IsWithin (length (columns_of (from_scope tables c.from)))) (keys_sorting sorting (output_values (core_outputs tables c))) → CoreWithin ws (core_meant tables sorting number c)
core_within tables ws before post sorting number c e n h keys_in =
    let s = from_scope tables c.from in
    let items = output_values (core_outputs tables c) in
    let keys = keys_sorting sorting items in
    let chain_part = flat_map (chain_name_causes tables) c.from in
    let item_part = flat_map (item_name_causes s) c.items in
    let where_part = condition_name_causes s c.condition in
    let group_part = flat_map (group_name_causes s) c.groups in
    let having_part = condition_name_causes s c.having in
    let rest1 = right_empty chain_part (item_part ++ (where_part ++ (group_part ++ having_part))) h in
    let rest2 = right_empty item_part (where_part ++ (group_part ++ having_part)) rest1 in
    let rest3 = right_empty where_part (group_part ++ having_part) rest2 in
    let items_in = items_within tables c h in
    let wide : length (columns_of s) ≡ sum (core_widths ws (core_meant tables sorting number c)) =
    total s ∙ ap sum (shape_widths tables (entries_of c.from)) ∙ ap sum (sym (core_wide tables ws before post sorting number c e n)) in
    let shown = two_within (length (columns_of s)) keys items keys_in items_in in
    record {
      joins = chains_within tables ws number c.from post (drop_there ws before (entry_widths tables (entries_of c.from) ++ post) number e n) (left_empty chain_part (item_part ++ (where_part ++ (group_part ++ having_part))) h);
      conditions = subst (λ (k : ℕ). All (IsWithin k) (conditions_of s c.condition)) wide (condition_within s c.condition (left_empty where_part (group_part ++ having_part) rest2));
      group = subst (λ (k : ℕ). GroupWithin k (group_meant s c (keys ++ items))) wide
          (group_within s c (keys ++ items) (left_empty group_part having_part rest3) (right_empty group_part having_part rest3) shown);
      items = subst (λ (k : ℕ). All (IsWithin k) items) wide items_in;
      keys = subst (λ (k : ℕ). All (IsWithin k) keys) wide keys_in;
    }

cores_within : (tables : List TableShape) (ws before : List ℕ) (places : List ℕ) (number : ℕ) (cs : List CoreTree) → ws ≡ before ++ entry_widths tables (entries_in cs) → number ≡ length before
    → flat_map (core_asked_causes tables) cs ≡ [] → All (CoreWithin ws) (cores_meant tables (by_places places) number cs)
cores_within tables ws before places number [] e n h = All-nil (CoreWithin ws)
cores_within tables ws before places number (c ∷ cs) e n h =
    let own = entry_widths tables (entries_of c.from) in
    let rest = entry_widths tables (entries_in cs) in
    let here : ws ≡ before ++ (own ++ rest) = e ∙ ap (λ (l : List ℕ). before ++ l) (widths_of_two tables (entries_of c.from) (entries_in cs)) in
    let clear = left_empty (core_asked_causes tables c) (flat_map (core_asked_causes tables) cs) h in
    All-cons (CoreWithin ws) (core_meant tables (by_places places) number c) (cores_meant tables (by_places places) (number + length (entries_of c.from)) cs)
    (core_within tables ws before rest (by_places places) number c here n clear
    (placed_within (length (columns_of (from_scope tables c.from))) (output_values (core_outputs tables c)) places (items_within tables c clear)))
    (cores_within tables ws (before ++ own) places (number + length (entries_of c.from)) cs (next_all ws before own rest here)
    (next_number before own number (length (entries_of c.from)) n (length-map (entries_of c.from) (entry_width tables)))
    (right_empty (core_asked_causes tables c) (flat_map (core_asked_causes tables) cs) h))

-- ---- statements

-- of a query with these cores and keys
all_within : (tables : List TableShape) (ws : List ℕ) (c : CoreTree) (others : List CoreTree) (ks : List KeyTree) → ws ≡ entry_widths tables (entries_in (c ∷ others)) → flat_map (core_asked_causes tables) (c ∷ others) ≡ []
    → (if is_empty others then flat_map (key_name_causes (from_scope tables c.from) c.distinct (core_outputs tables c)) ks else flat_map (place_name_causes (core_outputs tables c)) ks) ≡ []
    → All (CoreWithin ws) (cores_meant tables (if is_empty others then by_keys (map (key_meant (from_scope tables c.from) (core_outputs tables c)) ks) else by_places (map (key_place (core_outputs tables c)) ks)) 0 (c ∷ others))
all_within tables ws c [] ks e h k =
    let s = from_scope tables c.from in
    let outs = core_outputs tables c in
    let sorting = by_keys (map (key_meant s outs) ks) in
    let clear = left_empty (core_asked_causes tables c) [] h in
    let here = e ∙ widths_of_two tables (entries_of c.from) [] in
    All-cons (CoreWithin ws) (core_meant tables sorting 0 c) []
    (core_within tables ws [] [] sorting 0 c here refl clear (keys_within s c.distinct outs ks (shows_within tables c clear) k))
    (All-nil (CoreWithin ws))
all_within tables ws c (o ∷ os) ks e h k = cores_within tables ws [] (map (key_place (core_outputs tables c)) ks) 0 (c ∷ o ∷ os) e refl h

pub form_within : (tables : List TableShape) (statement : StatementTree) → ((c : Cause) → NameCauses tables statement c → ⊥) → FormWithin (widths_of tables statement) (meant tables statement).form
form_within tables (select q) n =
    let asked = no_asked tables q n in
    let cores_part = flat_map (core_asked_causes tables) (cores_of q) in
    all_within tables (widths_of tables (select q)) q.core q.others q.keys (shape_widths tables (query_entries q)) (left_empty cores_part (order_name_causes tables q) asked) (right_empty cores_part (order_name_causes tables q) asked)
