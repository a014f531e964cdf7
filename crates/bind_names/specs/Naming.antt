-- Phase 3, names: the causes of refusal that stand for a statement over tables. A list is read as a set.
use Rattle.std.specs.Prelude.{ℕ, nat_le, Bool, true, not, ◌&&◌, List, [], ◌∷◌, ◌++◌, length, map, filter, Option, Some, None, if◌then◌else◌, bytes_eq, Contains, flat_map}
use Rattle.std.specs.List.{list_any, list_all}
use Rattle.med_value.specs.declared.cause.Cause.{Cause}
use Rattle.med_value.specs.declared.cause.Cause.TheVariants.{UndefinedTable, UndefinedColumn, AmbiguousColumn, DuplicateAlias, InvalidColumnReference, MisplacedName}
use Rattle.med_syntax.specs.Prelude.{Name, ExprTree, ExprTrees, num, negative, text, truth, null, column, call_all, call, paren, minus, binary, between, among, like, compare, tested, negation, chain, none, more}
use Rattle.med_syntax.specs.QueryTree.{ItemTree, all, all_of, value, EntryTree, JoinTree, inner_join, left_join, cross_join, ChainTree, GroupTree, KeyTree, CoreTree, SelectTree, cores_of, StatementTree, select}
use Rattle.tri_expr.specs.Prelude.{Tree, same_tree}
use Rattle.bind_names.specs.Scope.{TableShape, Scope, has_entry, candidates, exposed_name, entries_of, query_entries, is_known, entry_shape, from_scope}
use Rattle.bind_names.specs.Meaning.{Output, SortKey, position, output_name, expression, is_named, sort_key, places_named, resolved, with_join, is_empty, core_outputs}

-- 42703 where a name means no column, 42702 where it can mean several
abbrev pub counted_causes : List ℕ → List Cause
counted_causes [] = UndefinedColumn ∷ []
counted_causes (p ∷ []) = []
counted_causes (p ∷ r ∷ rs) = AmbiguousColumn ∷ []

-- of a column; 42P01 where its qualifier names no visible entry
abbrev pub column_causes : Scope → Option Name → Name → List Cause
column_causes scope q n = if has_entry scope q then counted_causes (candidates scope q n) else UndefinedTable ∷ []

-- of an expression: those of each column in it
abbrev mutual
  pub name_causes : Scope → ExprTree → List Cause
  name_causes s (num n) = []
  name_causes s (negative n) = []
  name_causes s (text x) = []
  name_causes s (truth b) = []
  name_causes s null = []
  name_causes s (column q n) = column_causes s q n
  name_causes s (call_all f) = []
  name_causes s (call f es) = name_causes_of_all s es
  name_causes s (paren e) = name_causes s e
  name_causes s (minus e) = name_causes s e
  name_causes s (binary op a b) = name_causes s a ++ name_causes s b
  name_causes s (between neg e low high) = name_causes s e ++ (name_causes s low ++ name_causes s high)
  name_causes s (among neg e first others) = name_causes s e ++ (name_causes s first ++ name_causes_of_all s others)
  name_causes s (like neg e x) = name_causes s e
  name_causes s (compare op a b) = name_causes s a ++ name_causes s b
  name_causes s (tested neg e t) = name_causes s e
  name_causes s (negation e) = name_causes s e
  name_causes s (chain joint first others) = name_causes s first ++ name_causes_of_all s others

  pub name_causes_of_all : Scope → ExprTrees → List Cause
  name_causes_of_all s none = []
  name_causes_of_all s (more e es) = name_causes s e ++ name_causes_of_all s es

-- `*` where nothing is in view
abbrev pub star_causes : Scope → List Cause
star_causes [] = MisplacedName ∷ []
star_causes (e ∷ es) = []

-- of an item: 42601 for `*` without FROM, 42P01 for `q.*` where q names no visible entry
abbrev pub item_name_causes : Scope → ItemTree → List Cause
item_name_causes s all = star_causes s
item_name_causes s (all_of q) = if has_entry s (Some q) then [] else UndefinedTable ∷ []
item_name_causes s (value e alias) = name_causes s e

-- of WHERE and HAVING
abbrev pub condition_name_causes : Scope → Option ExprTree → List Cause
condition_name_causes s None = []
condition_name_causes s (Some e) = name_causes s e

-- of ON, which sees what stands on its left in its own chain, and its own entry
abbrev pub on_name_causes : Scope → JoinTree → List Cause
on_name_causes s (inner_join e on) = name_causes s on
on_name_causes s (left_join e on) = name_causes s on
on_name_causes s (cross_join e) = []

abbrev pub joins_name_causes : List TableShape → Scope → List JoinTree → List Cause
joins_name_causes tables before [] = []
joins_name_causes tables before (j ∷ js) = let s = with_join tables before j in on_name_causes s j ++ joins_name_causes tables s js

abbrev pub chain_name_causes : List TableShape → ChainTree → List Cause
chain_name_causes tables c = joins_name_causes tables (entry_shape tables c.first ∷ []) c.joins

-- of a column of GROUP BY
abbrev pub group_name_causes : Scope → GroupTree → List Cause
group_name_causes s g = column_causes s g.qualifier g.column

-- 42P10 for the position of no output
abbrev pub position_causes : List Output → ℕ → List Cause
position_causes outs n = if nat_le 1 n && nat_le n (length outs) then [] else InvalidColumnReference ∷ []

-- 42702 for a name that two different outputs have
abbrev pub are_same : List Output → Bool
are_same [] = true
are_same (o ∷ os) = list_all (λ (p : Output). same_tree o.value p.value) os

abbrev pub output_name_causes : List Output → Name → List Cause
output_name_causes outs n = if are_same (filter (is_named n) outs) then [] else AmbiguousColumn ∷ []

-- 42P10 under DISTINCT for what is no output
abbrev pub distinct_causes : Bool → List Output → Tree → List Cause
distinct_causes unique outs t =
    if unique && not (list_any (λ (o : Output). same_tree o.value t) outs) then InvalidColumnReference ∷ [] else []

abbrev pub sort_key_causes : Scope → Bool → List Output → SortKey → List Cause
sort_key_causes s unique outs (position n) = position_causes outs n
sort_key_causes s unique outs (output_name n) = output_name_causes outs n
sort_key_causes s unique outs (expression e) = name_causes s e ++ distinct_causes unique outs (resolved s e)

-- of a key of ORDER BY
abbrev pub key_name_causes : Scope → Bool → List Output → KeyTree → List Cause
key_name_causes s unique outs k = sort_key_causes s unique outs (sort_key outs k.key)

-- of FROM: 42P01 where there is no such table
abbrev pub entry_causes : List TableShape → EntryTree → List Cause
entry_causes tables e = if is_known tables e then [] else UndefinedTable ∷ []

-- 42712 where two entries have one name
abbrev pub alias_causes : List Name → List Cause
alias_causes [] = []
alias_causes (n ∷ ns) = if list_any (bytes_eq n) ns then DuplicateAlias ∷ [] else alias_causes ns

-- of what a core asks of its entries, which bring this into view
abbrev pub core_causes_in : List TableShape → Scope → CoreTree → List Cause
core_causes_in tables s c =
    flat_map (chain_name_causes tables) c.from ++ (flat_map (item_name_causes s) c.items ++ (condition_name_causes s c.condition
    ++ (flat_map (group_name_causes s) c.groups ++ condition_name_causes s c.having)))

abbrev pub core_asked_causes : List TableShape → CoreTree → List Cause
core_asked_causes tables c = core_causes_in tables (from_scope tables c.from) c

-- 42702 for a name that stands twice among the outputs, whatever they show
abbrev pub twice_causes : List ℕ → List Cause
twice_causes [] = []
twice_causes (p ∷ []) = []
twice_causes (p ∷ r ∷ rs) = AmbiguousColumn ∷ []

-- of a key of ORDER BY of a query with UNION ALL: 42P10 for one that is no output
abbrev pub output_key_causes : List Output → SortKey → List Cause
output_key_causes outs (position n) = position_causes outs n
output_key_causes outs (output_name n) = twice_causes (places_named 0 n outs)
output_key_causes outs (expression e) = InvalidColumnReference ∷ []

abbrev pub place_name_causes : List Output → KeyTree → List Cause
place_name_causes outs k = output_key_causes outs (sort_key outs k.key)

-- of ORDER BY, where the first core has this in view and these outputs
abbrev pub order_causes_in : Scope → List Output → SelectTree → List Cause
order_causes_in s outs q =
    if is_empty q.others then flat_map (key_name_causes s q.core.distinct outs) q.keys else flat_map (place_name_causes outs) q.keys

abbrev pub order_name_causes : List TableShape → SelectTree → List Cause
order_name_causes tables q = order_causes_in (from_scope tables q.core.from) (core_outputs tables q.core) q

-- of the entries of all cores, each of which has a name of its own within its core
abbrev pub core_alias_causes : CoreTree → List Cause
core_alias_causes c = alias_causes (map exposed_name (entries_of c.from))

abbrev pub entered_causes : List TableShape → SelectTree → List Cause
entered_causes tables q = flat_map (entry_causes tables) (query_entries q) ++ flat_map core_alias_causes (cores_of q)

-- of what is asked of them
abbrev pub asked_causes : List TableShape → SelectTree → List Cause
asked_causes tables q = flat_map (core_asked_causes tables) (cores_of q) ++ order_name_causes tables q

-- Columns are looked for once all tables of the statement are known.
abbrev pub once_known : List Cause → List Cause → List Cause
once_known [] asked = asked
once_known (c ∷ cs) asked = c ∷ cs

abbrev pub select_name_causes : List TableShape → SelectTree → List Cause
select_name_causes tables q = once_known (entered_causes tables q) (asked_causes tables q)

abbrev pub statement_name_causes : List TableShape → StatementTree → List Cause
statement_name_causes tables (select q) = select_name_causes tables q

-- the cause stands for the statement
abbrev pub NameCauses : List TableShape → StatementTree → Cause → Type 0
NameCauses tables tree c = Contains (statement_name_causes tables tree) c
