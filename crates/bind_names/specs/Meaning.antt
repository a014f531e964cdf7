-- What a statement means over tables, its names being resolved.
use Rattle.std.specs.Prelude.{ℕ, suc, ◌+◌, ◌-◌, ℤ, pos, neg_ℤ, min, Bool, true, false, not, ◌||◌, List, [], ◌∷◌, ◌++◌, length, map, filter, flat_map, drop, Option, Some, None, unwrap_or, codes, bytes_eq, if◌then◌else◌, slice_index_or}
use Rattle.std.specs.Option.{is_some}
use Rattle.std.specs.List.{list_any}
use Rattle.med_value.specs.Prelude.{Column, NoValue, Whole, Chars, Logic}
use Rattle.med_syntax.specs.Prelude.{Name, ExprTree, ExprTrees}
use Rattle.med_syntax.specs.declared.expr.Joint.{Joint}
use Rattle.med_syntax.specs.declared.expr.Joint.TheVariants.{Or, And}
use Rattle.med_syntax.specs.ExprTree as w
use Rattle.tri_expr.specs.declared.expr.SetFunction.{SetFunction}
use Rattle.tri_expr.specs.declared.expr.SetFunction.TheVariants.{Count, Sum, Min, Max}
use Rattle.med_query.specs.Prelude.{Direction, JoinForm, cross_form, inner_form, left_form, ChainForm, GroupForm, CoreForm, Form}
use Rattle.tri_expr.specs.Prelude.{arguments_in, Tree, Trees, conjunct_trees, column, literal, compare, compute, negate, all_of, some_of, opposite, asks, between, within, matches, parenthesised, count_rows, aggregate, none, part}
use Rattle.bind_names.specs.Aggregates.{has_aggregate}
use Rattle.med_syntax.specs.QueryTree.{ItemTree, all, all_of as all_of_entry, value, JoinTree, inner_join, left_join, cross_join, ChainTree, GroupTree, KeyTree, LimitTree, no_limit, rows, CoreTree, SelectTree, cores_of, StatementTree, select}
use Rattle.bind_names.specs.Scope.{TableShape, Scope, is_meant, candidates, joined_entry, chain_entries, entries_of, entry_columns, entry_shape, from_scope, query_places}

-- the one place that a name means; where a cause of names stands there is none, and the place says nothing
abbrev pub one_place : List ℕ → ℕ
one_place [] = 0
one_place (p ∷ ps) = p

-- A number literal, and one directly behind a minus. A statement that was read has them in range; what is beyond it counts as the
-- nearest number of the type.
abbrev pub number_of : ℕ → ℤ
number_of n = pos (min n 9223372036854775807)

abbrev pub negative_of : ℕ → ℤ
negative_of n = neg_ℤ (pos (min n 9223372036854775808))

abbrev pub joined : Joint → Trees → Tree
joined And ts = all_of ts
joined Or ts = some_of ts

-- count, sum, min and max by their names
abbrev pub function_named : Name → Option SetFunction
function_named f =
    if bytes_eq f (codes "count") then Some Count else if bytes_eq f (codes "sum") then Some Sum
    else if bytes_eq f (codes "min") then Some Min else if bytes_eq f (codes "max") then Some Max else None

-- An aggregate of one argument. Another call is refused, and says nothing.
abbrev pub aggregate_of : Option SetFunction → Trees → Tree
aggregate_of (Some f) (part a none) = aggregate f a
aggregate_of f ts = literal NoValue

-- each name by its place; AND, OR and IN with all their parts in one list
abbrev mutual
  pub resolved : Scope → ExprTree → Tree
  resolved s (w.num n) = literal (Whole (number_of n))
  resolved s (w.negative n) = literal (Whole (negative_of n))
  resolved s (w.text x) = literal (Chars x)
  resolved s (w.truth b) = literal (Logic b)
  resolved s w.null = literal NoValue
  resolved s (w.column q n) = column (one_place (candidates s q n))
  resolved s (w.call_all f) = if bytes_eq f (codes "count") then count_rows else literal NoValue
  resolved s (w.call f es) = aggregate_of (function_named f) (resolved_all s es)
  resolved s (w.paren e) = parenthesised (resolved s e)
  resolved s (w.minus e) = negate (resolved s e)
  resolved s (w.binary op a b) = compute op (resolved s a) (resolved s b)
  resolved s (w.between neg e low high) = between neg (resolved s e) (resolved s low) (resolved s high)
  resolved s (w.among neg e first others) = within neg (resolved s e) (part (resolved s first) (resolved_all s others))
  resolved s (w.like neg e x) = matches neg (resolved s e) x
  resolved s (w.compare op a b) = compare op (resolved s a) (resolved s b)
  resolved s (w.tested neg e t) = asks t neg (resolved s e)
  resolved s (w.negation e) = opposite (resolved s e)
  resolved s (w.chain joint first others) = joined joint (part (resolved s first) (resolved_all s others))

  pub resolved_all : Scope → ExprTrees → Trees
  resolved_all s w.none = none
  resolved_all s (w.more e es) = part (resolved s e) (resolved_all s es)

-- what a query answers in one place of its rows, and its name there
pub record Output : Type 0 where
  pub name : Name
  pub value : Tree

-- each column of an entry, the first column standing at this place
abbrev pub columns_from : ℕ → List Column → List Output
columns_from at [] = []
columns_from at (c ∷ cs) = record { name = c.name; value = column at } ∷ columns_from (suc at) cs

-- each column of an entry, if it is meant
abbrev pub starred_in : ℕ → Option Name → TableShape → List Output
starred_in at q e = if is_meant q e then columns_from at e.columns else []

-- `*` and `q.*`: each column of the entries that are meant, in order
abbrev pub starred : ℕ → Option Name → Scope → List Output
starred at q [] = []
starred at q (e ∷ es) = starred_in at q e ++ starred (at + length e.columns) q es

-- the name of an expression without an alias: the column's name, else the function's, parentheses looked through, else ?column?
abbrev pub expression_name : ExprTree → Name
expression_name (w.column q n) = n
expression_name (w.call_all f) = f
expression_name (w.call f es) = f
expression_name (w.paren e) = expression_name e
expression_name _ = codes "?column?"

-- the name of an expression as an item: its alias, if it has one
abbrev pub shown_name : ExprTree → Option Name → Name
shown_name e alias = unwrap_or alias (expression_name e)

abbrev pub item_outputs : Scope → ItemTree → List Output
item_outputs s all = starred 0 None s
item_outputs s (all_of_entry q) = starred 0 (Some q) s
item_outputs s (value e alias) = record { name = shown_name e alias; value = resolved s e } ∷ []

-- the outputs of a select list, in order
abbrev pub outputs_of : Scope → List ItemTree → List Output
outputs_of s items = flat_map (item_outputs s) items

-- the conjuncts of WHERE or HAVING; none without it
abbrev pub conditions_of : Scope → Option ExprTree → List Tree
conditions_of s None = []
conditions_of s (Some e) = conjunct_trees (resolved s e)

-- ---- ORDER BY (SQL:2016, <sort specification list>)

-- A key is an unsigned number, which is the position of an output from 1 on; the unqualified name of an output; or else an expression over
-- what is in view. Parentheses are looked through.
pub data SortKey : Type 0 where
  position : ℕ → SortKey
  output_name : Name → SortKey
  expression : ExprTree → SortKey

abbrev pub is_named : Name → Output → Bool
is_named n o = bytes_eq o.name n

abbrev pub sort_key : List Output → ExprTree → SortKey
sort_key outs (w.paren e) = sort_key outs e
sort_key outs (w.num n) = position n
sort_key outs (w.column None n) = if list_any (is_named n) outs then output_name n else expression (w.column None n)
sort_key outs e = expression e

-- what the first of these outputs shows; of none nothing is known
abbrev pub first_value : List Output → Tree
first_value [] = literal NoValue
first_value (o ∷ os) = o.value

abbrev pub sorted_by : Scope → List Output → SortKey → Tree
sorted_by s outs (position n) = first_value (drop (n - 1) outs)
sorted_by s outs (output_name n) = first_value (filter (is_named n) outs)
sorted_by s outs (expression e) = resolved s e

abbrev pub key_meant : Scope → List Output → KeyTree → Tree
key_meant s outs k = sorted_by s outs (sort_key outs k.key)

-- ---- ORDER BY of a query with UNION ALL

-- the places of the outputs of this name, the first of them standing at this place
abbrev pub places_named : ℕ → Name → List Output → List ℕ
places_named at n [] = []
places_named at n (o ∷ os) = if is_named n o then at ∷ places_named (suc at) n os else places_named (suc at) n os

-- the output that a key means there: by its position or by its name. Another key is refused, and says nothing.
abbrev pub output_place : List Output → SortKey → ℕ
output_place outs (position n) = n - 1
output_place outs (output_name n) = one_place (places_named 0 n outs)
output_place outs (expression e) = 0

abbrev pub key_place : List Output → KeyTree → ℕ
key_place outs k = output_place outs (sort_key outs k.key)

abbrev pub key_direction : KeyTree → Direction
key_direction k = record { descending = k.descending; nulls_first = k.nulls_first }

-- ---- FROM (SQL:2016, <from clause>, <joined table>)

-- A join with the entry of this number. ON sees what stands on its left in its own chain, and its own entry.
abbrev pub join_meant : Scope → ℕ → ℕ → JoinTree → JoinForm
join_meant s number width (inner_join e on) = inner_form number (conjunct_trees (resolved s on))
join_meant s number width (left_join e on) = left_form number width (conjunct_trees (resolved s on))
join_meant s number width (cross_join e) = cross_form number

-- the entries before, with what a join brings
abbrev pub with_join : List TableShape → Scope → JoinTree → Scope
with_join tables before j = before ++ (entry_shape tables (joined_entry j) ∷ [])

abbrev pub joins_meant : List TableShape → Scope → ℕ → List JoinTree → List JoinForm
joins_meant tables before number [] = []
joins_meant tables before number (j ∷ js) =
    let s = with_join tables before j in
    join_meant s number (length (entry_columns tables (joined_entry j))) j ∷ joins_meant tables s (suc number) js

-- a chain whose first entry has this number
abbrev pub chain_meant : List TableShape → ℕ → ChainTree → ChainForm
chain_meant tables number c = record { first = number; joins = joins_meant tables (entry_shape tables c.first ∷ []) (suc number) c.joins }

-- the chains, their entries being counted over all of FROM from the left
abbrev pub chains_meant : List TableShape → ℕ → List ChainTree → List ChainForm
chains_meant tables number [] = []
chains_meant tables number (c ∷ cs) = chain_meant tables number c ∷ chains_meant tables (number + length (chain_entries c)) cs

-- ---- GROUP BY, HAVING and aggregates (SQL:2016, <group by clause>, <having clause>)

abbrev pub group_place : Scope → GroupTree → ℕ
group_place s g = one_place (candidates s g.qualifier g.column)

abbrev pub is_empty : {X : Type 0} → List X → Bool
is_empty [] = true
is_empty (x ∷ xs) = false

-- With GROUP BY, HAVING or an aggregate a core groups.
abbrev pub groups_rows : CoreTree → List Tree → Bool
groups_rows c shown = not (is_empty c.groups) || (is_some c.having || list_any has_aggregate shown)

-- the groups of a core that groups by these places and shows this
abbrev pub group_of : Bool → List ℕ → List Tree → List Tree → Option GroupForm
group_of groups keys having shown =
    if groups then Some (record { keys = keys; arguments = flat_map arguments_in (having ++ shown); having = having }) else None

-- the groups of a core whose items and order keys are these
abbrev pub group_meant : Scope → CoreTree → List Tree → Option GroupForm
group_meant s c shown =
    group_of (groups_rows c shown) (map (group_place s) c.groups) (conditions_of s c.having) shown

-- ---- one core (SQL:2016, <query specification>)

abbrev pub core_outputs : List TableShape → CoreTree → List Output
core_outputs tables c = outputs_of (from_scope tables c.from) c.items

abbrev pub output_values : List Output → List Tree
output_values = map (λ (o : Output). o.value)

-- By what the rows of a core are sorted: by these expressions over what it has in view, or by what it shows in these places.
pub data Sorting : Type 0 where
  by_keys : List Tree → Sorting
  by_places : List ℕ → Sorting

-- what a list of items has in a place; past its end nothing is known
abbrev pub item_at : List Tree → ℕ → Tree
item_at items place = slice_index_or items place (literal NoValue)

abbrev pub keys_sorting : Sorting → List Tree → List Tree
keys_sorting (by_keys keys) items = keys
keys_sorting (by_places places) items = map (item_at items) places

-- a core whose first entry has this number
abbrev pub core_meant : List TableShape → Sorting → ℕ → CoreTree → CoreForm
core_meant tables sorting number c =
    let s = from_scope tables c.from in
    let items = output_values (core_outputs tables c) in
    let keys = keys_sorting sorting items in
    record {
      from = chains_meant tables number c.from;
      conditions = conditions_of s c.condition;
      group = group_meant s c (keys ++ items);
      items = items;
      distinct = c.distinct;
      keys = keys;
    }

-- ---- the whole (SQL:2016, <query expression>)

abbrev pub limit_of : Option LimitTree → Option ℕ
limit_of None = None
limit_of (Some no_limit) = None
limit_of (Some (rows n)) = Some n

-- ORDER BY of a query of one core sees what that core has in view, and its outputs; of one with UNION ALL the outputs, under the names that
-- the first core gives them.
abbrev pub sorting_in : Scope → List Output → SelectTree → Sorting
sorting_in s outs q = if is_empty q.others then by_keys (map (key_meant s outs) q.keys) else by_places (map (key_place outs) q.keys)

abbrev pub sorting_of : List TableShape → SelectTree → Sorting
sorting_of tables q = sorting_in (from_scope tables q.core.from) (core_outputs tables q.core) q

-- the cores, the first entry of the first having this number; their entries are counted over all of them
abbrev pub cores_meant : List TableShape → Sorting → ℕ → List CoreTree → List CoreForm
cores_meant tables sorting number [] = []
cores_meant tables sorting number (c ∷ cs) =
    core_meant tables sorting number c ∷ cores_meant tables sorting (number + length (entries_of c.from)) cs

-- A query in terms of places: the names of the answer's columns, which are those of the first core, the place of each entry's table in the
-- list of tables, and what is asked of these entries, which are counted from 0.
pub record Meant : Type 0 where
  pub names : List Name
  pub entries : List ℕ
  pub form : Form

abbrev pub meant_in : List TableShape → SelectTree → Meant
meant_in tables q = record {
  names = map (λ (o : Output). o.name) (core_outputs tables q.core);
  entries = query_places tables q;
  form = record {
    cores = cores_meant tables (sorting_of tables q) 0 (cores_of q);
    directions = map key_direction q.keys;
    offset = unwrap_or q.offset 0;
    limit = limit_of q.limit;
  };
}

-- what a statement means, where no cause of names or types stands
abbrev pub meant : List TableShape → StatementTree → Meant
meant tables (select q) = meant_in tables q
