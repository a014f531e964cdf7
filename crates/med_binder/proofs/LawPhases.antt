-- The phases of the causes of names and of types.
use Rattle.std.proofs.Common.{◌≡◌, List, [], ◌∷◌, ◌++◌, map, filter, bytes_eq, Bool, true, false, cond, Option, Some, None, ℕ, flat_map, refl, All, arith, length}
use Rattle.std.specs.List.{list_any, range_with_len}
use Rattle.std.proofs.lemmas.List.Elements.{All-cons, All-append, All-contains}
use Rattle.med_value.specs.declared.cause.Cause.{Cause}
use Rattle.med_value.specs.declared.cause.Cause.TheVariants.{UndefinedTable, UndefinedColumn, AmbiguousColumn, DuplicateAlias, InvalidColumnReference, MisplacedName, DatatypeMismatch, UndefinedFunction, Grouping, InvalidEscape, FeatureNotSupported, ValuesSyntax}
use Rattle.med_value.specs.declared.value.ColType.{ColType}
use Rattle.med_value.specs.declared.value.ColType.TheVariants.{Int, Text}
use Rattle.med_syntax.specs.Prelude.{Name, ExprTree, ExprTrees, num, negative, text, truth, null, column, call_all, call, paren, minus, binary, between, among, like, compare, tested, negation, chain, none, more}
use Rattle.med_value.specs.declared.operators.Status.{Status}
use Rattle.med_value.specs.declared.operators.Status.TheVariants as statuses
use Rattle.med_syntax.specs.QueryTree.{ItemTree, all, all_of, value, EntryTree, JoinTree, inner_join, left_join, cross_join, GroupTree, KeyTree, CoreTree, SelectTree, cores_of, StatementTree, select}
use Rattle.tri_expr.specs.declared.expr.SetFunction.{SetFunction}
use Rattle.tri_expr.specs.declared.expr.SetFunction.TheVariants.{Count, Sum, Min, Max}
use Rattle.tri_expr.specs.Tree.{Tree}
use Rattle.med_query.specs.Form.{JoinForm, cross_form, inner_form, left_form, ChainForm, GroupForm, CoreForm, Form}
use Rattle.bind_names.specs.Prelude.{TableShape, Scope, has_entry, candidates, exposed_name, entries_of, query_entries, is_known, entry_shape, from_scope, Output, SortKey, position, output_name, expression, is_named, sort_key, places_named, is_empty, core_outputs, function_named, resolved, with_join, meant_in, counted_causes, column_causes, name_causes, name_causes_of_all, star_causes, item_name_causes, condition_name_causes, on_name_causes, joins_name_causes, chain_name_causes, group_name_causes, are_same, distinct_causes, sort_key_causes, key_name_causes, entry_causes, alias_causes, core_asked_causes, twice_causes, output_key_causes, place_name_causes, order_name_causes, core_alias_causes, entered_causes, asked_causes, once_known, statement_name_causes, NameCauses}
use Rattle.bind_types.specs.Typing.{type_of, types_of, takes, have_one_type, unless, comparing, as_number, as_text, as_ordered, as_call_all, as_call, as_condition, as_tested, ends_in_escape, as_pattern, type_causes, type_causes_of_all, condition_causes, item_type_causes, as_where, condition_type_causes, on_type_causes, joins_type_causes, chain_type_causes, sort_key_type_causes, key_type_causes, no_aggregate, no_risk, join_causes, chain_causes, grouping_causes, core_causes, form_causes, core_written_causes, order_type_causes, written_type_causes, answer_types, place_causes, in_place, output_type_causes, statement_type_causes, TypeCauses}
use Rattle.med_value.specs.Causes.{phase_of}

abbrev pub OfNames : List Cause → Type 0
OfNames cs = All (λ (c : Cause). phase_of c ≡ Some 3) cs

abbrev pub OfTypes : List Cause → Type 0
OfTypes cs = All (λ (c : Cause). phase_of c ≡ Some 4) cs

none_of : (P : Cause → Type 0) → All P []
none_of P k d lt = absurd (omega arith)

one_of : (P : Cause → Type 0) (c : Cause) → P c → All P (c ∷ [])
one_of P c h = All-cons P c [] h (none_of P)

either_of : (P : Cause → Type 0) (b : Bool) (xs ys : List Cause) → All P xs → All P ys → All P (cond b xs ys)
either_of P true xs ys h k = h
either_of P false xs ys h k = k

flat_of : {X : Type 0} (P : Cause → Type 0) (f : X → List Cause) (xs : List X) → ((x : X) → All P (f x)) → All P (flat_map f xs)
flat_of P f [] h = none_of P
flat_of P f (x ∷ xs) h = All-append P (f x) (flat_map f xs) (h x) (flat_of P f xs h)

-- names

abbrev named : Cause → Type 0
named c = phase_of c ≡ Some 3

counted : (places : List ℕ) → OfNames (counted_causes places)
counted [] = one_of named UndefinedColumn refl
counted (p ∷ []) = none_of named
counted (p ∷ r ∷ rs) = one_of named AmbiguousColumn refl

with_names : (xs ys : List Cause) → OfNames xs → OfNames ys → OfNames (xs ++ ys)
with_names xs ys h k = All-append named xs ys h k

column_names : (s : Scope) (q : Option Name) (n : Name) → OfNames (column_causes s q n)
column_names s q n = either_of named (has_entry s q) (counted_causes (candidates s q n)) (UndefinedTable ∷ []) (counted (candidates s q n)) (one_of named UndefinedTable refl)

mutual
  pub of_names : (s : Scope) (e : ExprTree) → OfNames (name_causes s e)
  of_names s (num n) = none_of named
  of_names s (negative n) = none_of named
  of_names s (text x) = none_of named
  of_names s (truth b) = none_of named
  of_names s null = none_of named
  of_names s (column q n) = column_names s q n
  of_names s (call_all f) = none_of named
  of_names s (call f es) = all_of_names s es
  of_names s (paren e) = of_names s e
  of_names s (minus e) = of_names s e
  of_names s (binary op a b) = All-append named (name_causes s a) (name_causes s b) (of_names s a) (of_names s b)
  of_names s (between neg e low high) = All-append named (name_causes s e) (name_causes s low ++ name_causes s high) (of_names s e) (All-append named (name_causes s low) (name_causes s high) (of_names s low) (of_names s high))
  of_names s (among neg e first others) =
      All-append named (name_causes s e) (name_causes s first ++ name_causes_of_all s others) (of_names s e) (All-append named (name_causes s first) (name_causes_of_all s others) (of_names s first) (all_of_names s others))
  of_names s (like neg e x) = of_names s e
  of_names s (compare op a b) = All-append named (name_causes s a) (name_causes s b) (of_names s a) (of_names s b)
  of_names s (tested neg e t) = of_names s e
  of_names s (negation e) = of_names s e
  of_names s (chain joint first others) = All-append named (name_causes s first) (name_causes_of_all s others) (of_names s first) (all_of_names s others)

  all_of_names : (s : Scope) (es : ExprTrees) → OfNames (name_causes_of_all s es)
  all_of_names s none = none_of named
  all_of_names s (more e es) = All-append named (name_causes s e) (name_causes_of_all s es) (of_names s e) (all_of_names s es)

star_names : (s : Scope) → OfNames (star_causes s)
star_names [] = one_of named MisplacedName refl
star_names (e ∷ es) = none_of named

item_names : (s : Scope) (i : ItemTree) → OfNames (item_name_causes s i)
item_names s all = star_names s
item_names s (all_of q) = either_of named (has_entry s (Some q)) [] (UndefinedTable ∷ []) (none_of named) (one_of named UndefinedTable refl)
item_names s (value e alias) = of_names s e

condition_names : (s : Scope) (e : Option ExprTree) → OfNames (condition_name_causes s e)
condition_names s None = none_of named
condition_names s (Some e) = of_names s e

on_names : (s : Scope) (j : JoinTree) → OfNames (on_name_causes s j)
on_names s (inner_join e on) = of_names s on
on_names s (left_join e on) = of_names s on
on_names s (cross_join e) = none_of named

joins_names : (tables : List TableShape) (before : Scope) (js : List JoinTree) → OfNames (joins_name_causes tables before js)
joins_names tables before [] = none_of named
joins_names tables before (j ∷ js) =
    let s = with_join tables before j in
    with_names (on_name_causes s j) (joins_name_causes tables s js) (on_names s j) (joins_names tables s js)

group_names : (s : Scope) (g : GroupTree) → OfNames (group_name_causes s g)
group_names s g = column_names s g.qualifier g.column

sort_names : (s : Scope) (unique : Bool) (outs : List Output) (k : SortKey) → OfNames (sort_key_causes s unique outs k)
sort_names s unique outs (position n) = either_of named _ [] (InvalidColumnReference ∷ []) (none_of named) (one_of named InvalidColumnReference refl)
sort_names s unique outs (output_name n) = either_of named (are_same (filter (is_named n) outs)) [] (AmbiguousColumn ∷ []) (none_of named) (one_of named AmbiguousColumn refl)
sort_names s unique outs (expression e) =
    with_names (name_causes s e) (distinct_causes unique outs (resolved s e)) (of_names s e) (either_of named _ (InvalidColumnReference ∷ []) [] (one_of named InvalidColumnReference refl) (none_of named))

key_names : (s : Scope) (unique : Bool) (outs : List Output) (k : KeyTree) → OfNames (key_name_causes s unique outs k)
key_names s unique outs k = sort_names s unique outs (sort_key outs k.key)

entry_names : (tables : List TableShape) (e : EntryTree) → OfNames (entry_causes tables e)
entry_names tables e = either_of named (is_known tables e) [] (UndefinedTable ∷ []) (none_of named) (one_of named UndefinedTable refl)

alias_names : (ns : List Name) → OfNames (alias_causes ns)
alias_names [] = none_of named
alias_names (n ∷ ns) = either_of named (list_any (bytes_eq n) ns) (DuplicateAlias ∷ []) (alias_causes ns) (one_of named DuplicateAlias refl) (alias_names ns)

once_of : (xs ys : List Cause) → OfNames xs → OfNames ys → OfNames (once_known xs ys)
once_of [] ys h k = k
once_of (x ∷ xs) ys h k = h

core_names : (tables : List TableShape) (c : CoreTree) → OfNames (core_asked_causes tables c)
core_names tables c =
    let s = from_scope tables c.from in
    let having = condition_name_causes s c.having in
    let groups = flat_map (group_name_causes s) c.groups in
    let conditions = condition_name_causes s c.condition in
    let items = flat_map (item_name_causes s) c.items in
    with_names (flat_map (chain_name_causes tables) c.from) (items ++ (conditions ++ (groups ++ having)))
    (flat_of named (chain_name_causes tables) c.from (λ c. joins_names tables (entry_shape tables c.first ∷ []) c.joins))
    (with_names items (conditions ++ (groups ++ having)) (flat_of named (item_name_causes s) c.items (item_names s))
    (with_names conditions (groups ++ having) (condition_names s c.condition)
    (with_names groups having (flat_of named (group_name_causes s) c.groups (group_names s)) (condition_names s c.having))))

twice_names : (places : List ℕ) → OfNames (twice_causes places)
twice_names [] = none_of named
twice_names (p ∷ []) = none_of named
twice_names (p ∷ r ∷ rs) = one_of named AmbiguousColumn refl

output_names : (outs : List Output) (k : SortKey) → OfNames (output_key_causes outs k)
output_names outs (position n) = either_of named _ [] (InvalidColumnReference ∷ []) (none_of named) (one_of named InvalidColumnReference refl)
output_names outs (output_name n) = twice_names (places_named 0 n outs)
output_names outs (expression e) = one_of named InvalidColumnReference refl

order_names : (tables : List TableShape) (q : SelectTree) → OfNames (order_name_causes tables q)
order_names tables q =
    let s = from_scope tables q.core.from in
    let outs = core_outputs tables q.core in
    either_of named (is_empty q.others) (flat_map (key_name_causes s q.core.distinct outs) q.keys) (flat_map (place_name_causes outs) q.keys)
    (flat_of named (key_name_causes s q.core.distinct outs) q.keys (key_names s q.core.distinct outs))
    (flat_of named (place_name_causes outs) q.keys (λ k. output_names outs (sort_key outs k.key)))

entered_names : (tables : List TableShape) (q : SelectTree) → OfNames (entered_causes tables q)
entered_names tables q =
    with_names (flat_map (entry_causes tables) (query_entries q)) (flat_map core_alias_causes (cores_of q))
    (flat_of named (entry_causes tables) (query_entries q) (entry_names tables)) (flat_of named core_alias_causes (cores_of q) (λ c. alias_names (map exposed_name (entries_of c.from))))

asked_names : (tables : List TableShape) (q : SelectTree) → OfNames (asked_causes tables q)
asked_names tables q =
    with_names (flat_map (core_asked_causes tables) (cores_of q)) (order_name_causes tables q) (flat_of named (core_asked_causes tables) (cores_of q) (core_names tables)) (order_names tables q)

pub names_are_of_phase : (tables : List TableShape) (tree : StatementTree) (c : Cause) → NameCauses tables tree c → phase_of c ≡ Some 3
names_are_of_phase tables (select q) c h = All-contains named (statement_name_causes tables (select q)) c (once_of (entered_causes tables q) (asked_causes tables q) (entered_names tables q) (asked_names tables q)) h

-- types

abbrev typed : Cause → Type 0
typed c = phase_of c ≡ Some 4

unless_types : (b : Bool) (c : Cause) → typed c → OfTypes (unless b c)
unless_types b c h = either_of typed b [] (c ∷ []) (none_of typed) (one_of typed c h)

comparing_types : (ts : List (Option ColType)) → OfTypes (comparing ts)
comparing_types ts = unless_types (have_one_type ts) UndefinedFunction refl

condition_of : (t : Option ColType) → OfTypes (as_condition t)
condition_of t = unless_types _ DatatypeMismatch refl

tested_of : (s : Status) (t : Option ColType) → OfTypes (as_tested s t)
tested_of statuses.Null t = none_of typed
tested_of statuses.True t = condition_of t
tested_of statuses.False t = condition_of t
tested_of statuses.Unknown t = condition_of t

with_types : (xs ys : List Cause) → OfTypes xs → OfTypes ys → OfTypes (xs ++ ys)
with_types xs ys h k = All-append typed xs ys h k

number_of : (t : Option ColType) → OfTypes (as_number t)
number_of t = unless_types (takes Int t) UndefinedFunction refl

text_of : (t : Option ColType) → OfTypes (as_text t)
text_of t = unless_types (takes Text t) UndefinedFunction refl

pattern_of : (x : List ℕ) → OfTypes (as_pattern x)
pattern_of x = either_of typed (ends_in_escape x) (InvalidEscape ∷ []) [] (one_of typed InvalidEscape refl) (none_of typed)

ordered_of : (t : Option ColType) → OfTypes (as_ordered t)
ordered_of t = unless_types _ UndefinedFunction refl

no_function : OfTypes (UndefinedFunction ∷ [])
no_function = one_of typed UndefinedFunction refl

call_all_types : (f : Option SetFunction) → OfTypes (as_call_all f)
call_all_types None = no_function
call_all_types (Some Count) = none_of typed
call_all_types (Some Sum) = no_function
call_all_types (Some Min) = no_function
call_all_types (Some Max) = no_function

call_types : (f : Option SetFunction) (ts : List (Option ColType)) → OfTypes (as_call f ts)
call_types None ts = no_function
call_types (Some Count) [] = no_function
call_types (Some Count) (t ∷ []) = none_of typed
call_types (Some Count) (t ∷ u ∷ ts) = no_function
call_types (Some Sum) [] = no_function
call_types (Some Sum) (t ∷ []) = number_of t
call_types (Some Sum) (t ∷ u ∷ ts) = no_function
call_types (Some Min) [] = no_function
call_types (Some Min) (t ∷ []) = ordered_of t
call_types (Some Min) (t ∷ u ∷ ts) = no_function
call_types (Some Max) [] = no_function
call_types (Some Max) (t ∷ []) = ordered_of t
call_types (Some Max) (t ∷ u ∷ ts) = no_function

mutual
  pub of_types : (s : Scope) (e : ExprTree) → OfTypes (type_causes s e)
  of_types s (num n) = none_of typed
  of_types s (negative n) = none_of typed
  of_types s (text x) = none_of typed
  of_types s (truth b) = none_of typed
  of_types s null = none_of typed
  of_types s (column q n) = none_of typed
  of_types s (call_all f) = call_all_types (function_named f)
  of_types s (call f es) = with_types (type_causes_of_all s es) (as_call (function_named f) (types_of s es)) (all_of_types s es) (call_types (function_named f) (types_of s es))
  of_types s (paren e) = of_types s e
  of_types s (minus e) = with_types (type_causes s e) (as_number (type_of s e)) (of_types s e) (number_of (type_of s e))
  of_types s (binary op a b) =
      with_types (type_causes s a ++ as_number (type_of s a)) (type_causes s b ++ as_number (type_of s b))
      (with_types (type_causes s a) (as_number (type_of s a)) (of_types s a) (number_of (type_of s a)))
      (with_types (type_causes s b) (as_number (type_of s b)) (of_types s b) (number_of (type_of s b)))
  of_types s (between neg e low high) =
      with_types (type_causes s e ++ (type_causes s low ++ type_causes s high)) (comparing (type_of s e ∷ type_of s low ∷ type_of s high ∷ []))
      (with_types (type_causes s e) (type_causes s low ++ type_causes s high) (of_types s e) (with_types (type_causes s low) (type_causes s high) (of_types s low) (of_types s high)))
      (comparing_types (type_of s e ∷ type_of s low ∷ type_of s high ∷ []))
  of_types s (among neg e first others) =
      with_types (type_causes s e ++ (type_causes s first ++ type_causes_of_all s others)) (comparing (type_of s e ∷ type_of s first ∷ types_of s others))
      (with_types (type_causes s e) (type_causes s first ++ type_causes_of_all s others) (of_types s e) (with_types (type_causes s first) (type_causes_of_all s others) (of_types s first) (all_of_types s others)))
      (comparing_types (type_of s e ∷ type_of s first ∷ types_of s others))
  of_types s (like neg e x) =
      with_types (type_causes s e ++ as_text (type_of s e)) (as_pattern x) (with_types (type_causes s e) (as_text (type_of s e)) (of_types s e) (text_of (type_of s e))) (pattern_of x)
  of_types s (compare op a b) =
      with_types (type_causes s a ++ type_causes s b) (comparing (type_of s a ∷ type_of s b ∷ [])) (with_types (type_causes s a) (type_causes s b) (of_types s a) (of_types s b)) (comparing_types (type_of s a ∷ type_of s b ∷ []))
  of_types s (tested neg e t) = with_types (type_causes s e) (as_tested t (type_of s e)) (of_types s e) (tested_of t (type_of s e))
  of_types s (negation e) = with_types (type_causes s e) (as_condition (type_of s e)) (of_types s e) (condition_of (type_of s e))
  of_types s (chain joint first others) =
      with_types (type_causes s first ++ as_condition (type_of s first)) (condition_causes s others) (with_types (type_causes s first) (as_condition (type_of s first)) (of_types s first) (condition_of (type_of s first)))
      (conditions_of s others)

  all_of_types : (s : Scope) (es : ExprTrees) → OfTypes (type_causes_of_all s es)
  all_of_types s none = none_of typed
  all_of_types s (more e es) = with_types (type_causes s e) (type_causes_of_all s es) (of_types s e) (all_of_types s es)

  conditions_of : (s : Scope) (es : ExprTrees) → OfTypes (condition_causes s es)
  conditions_of s none = none_of typed
  conditions_of s (more e es) =
      with_types (type_causes s e ++ as_condition (type_of s e)) (condition_causes s es) (with_types (type_causes s e) (as_condition (type_of s e)) (of_types s e) (condition_of (type_of s e))) (conditions_of s es)

item_types : (s : Scope) (i : ItemTree) → OfTypes (item_type_causes s i)
item_types s all = none_of typed
item_types s (all_of q) = none_of typed
item_types s (value e alias) = of_types s e

where_types : (s : Scope) (e : Option ExprTree) → OfTypes (condition_type_causes s e)
where_types s None = none_of typed
where_types s (Some e) = with_types (type_causes s e) (as_condition (type_of s e)) (of_types s e) (condition_of (type_of s e))

asked_types : (s : Scope) (e : ExprTree) → OfTypes (as_where s e)
asked_types s e = with_types (type_causes s e) (as_condition (type_of s e)) (of_types s e) (condition_of (type_of s e))

on_types : (s : Scope) (j : JoinTree) → OfTypes (on_type_causes s j)
on_types s (inner_join e on) = asked_types s on
on_types s (left_join e on) = asked_types s on
on_types s (cross_join e) = none_of typed

joins_types : (tables : List TableShape) (before : Scope) (js : List JoinTree) → OfTypes (joins_type_causes tables before js)
joins_types tables before [] = none_of typed
joins_types tables before (j ∷ js) =
    let s = with_join tables before j in
    with_types (on_type_causes s j) (joins_type_causes tables s js) (on_types s j) (joins_types tables s js)

sort_types : (s : Scope) (k : SortKey) → OfTypes (sort_key_type_causes s k)
sort_types s (position n) = none_of typed
sort_types s (output_name n) = none_of typed
sort_types s (expression e) = of_types s e

key_types : (s : Scope) (outs : List Output) (k : KeyTree) → OfTypes (key_type_causes s outs k)
key_types s outs k = sort_types s (sort_key outs k.key)

aggregate_types : (ts : List Tree) → OfTypes (no_aggregate ts)
aggregate_types ts = unless_types _ Grouping refl

on_form_types : (on : List Tree) → OfTypes (no_aggregate on ++ no_risk on)
on_form_types on = with_types (no_aggregate on) (no_risk on) (aggregate_types on) (unless_types _ FeatureNotSupported refl)

join_types : (j : JoinForm) → OfTypes (join_causes j)
join_types (cross_form number) = none_of typed
join_types (inner_form number on) = on_form_types on
join_types (left_form number width on) = on_form_types on

chain_types : (c : ChainForm) → OfTypes (chain_causes c)
chain_types c = flat_of typed join_causes c.joins join_types

grouping_types : (g : Option GroupForm) (shown : List Tree) → OfTypes (grouping_causes g shown)
grouping_types None shown = none_of typed
grouping_types (Some g) shown = unless_types _ Grouping refl

core_form_types : (f : CoreForm) → OfTypes (core_causes f)
core_form_types f =
    with_types (flat_map chain_causes f.from) (no_aggregate f.conditions ++ grouping_causes f.group (f.keys ++ f.items)) (flat_of typed chain_causes f.from chain_types)
    (with_types (no_aggregate f.conditions) (grouping_causes f.group (f.keys ++ f.items)) (aggregate_types f.conditions) (grouping_types f.group (f.keys ++ f.items)))

form_types : (f : Form) → OfTypes (form_causes f)
form_types f = flat_of typed core_causes f.cores core_form_types

core_written : (tables : List TableShape) (c : CoreTree) → OfTypes (core_written_causes tables c)
core_written tables c =
    let s = from_scope tables c.from in
    let having = condition_type_causes s c.having in
    let conditions = condition_type_causes s c.condition in
    let items = flat_map (item_type_causes s) c.items in
    with_types (flat_map (chain_type_causes tables) c.from) (items ++ (conditions ++ having))
    (flat_of typed (chain_type_causes tables) c.from (λ c. joins_types tables (entry_shape tables c.first ∷ []) c.joins))
    (with_types items (conditions ++ having) (flat_of typed (item_type_causes s) c.items (item_types s)) (with_types conditions having (where_types s c.condition) (where_types s c.having)))

order_types : (tables : List TableShape) (q : SelectTree) → OfTypes (order_type_causes tables q)
order_types tables q =
    let s = from_scope tables q.core.from in
    let outs = core_outputs tables q.core in
    flat_of typed (key_type_causes s outs) q.keys (key_types s outs)

written_types : (tables : List TableShape) (q : SelectTree) → OfTypes (written_type_causes tables q)
written_types tables q =
    with_types (flat_map (core_written_causes tables) (cores_of q)) (order_type_causes tables q) (flat_of typed (core_written_causes tables) (cores_of q) (core_written tables)) (order_types tables q)

output_types : (tables : List TableShape) (q : SelectTree) → OfTypes (output_type_causes tables q)
output_types tables q =
    let rows = answer_types tables q in
    let f = λ (place : ℕ). place_causes (in_place rows place) in
    with_types (unless _ ValuesSyntax) (flat_map f (range_with_len 0 (length (core_outputs tables q.core)))) (unless_types _ ValuesSyntax refl)
    (flat_of typed f (range_with_len 0 (length (core_outputs tables q.core))) (λ place. unless_types _ DatatypeMismatch refl))

pub types_are_of_phase : (tables : List TableShape) (tree : StatementTree) (c : Cause) → TypeCauses tables tree c → phase_of c ≡ Some 4
types_are_of_phase tables (select q) c h =
    let form = form_causes (meant_in tables q).form in
    All-contains typed (statement_type_causes tables (select q)) c
    (with_types (written_type_causes tables q) (form ++ output_type_causes tables q) (written_types tables q) (with_types form (output_type_causes tables q) (form_types (meant_in tables q).form) (output_types tables q))) h
