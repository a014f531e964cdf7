-- What resolving the names of a part of a query answers: what it means, or a cause of names that stands against it.
use Rattle.std.specs.Prelude.{Bool, ℕ, List, [], ◌∷◌, ◌++◌, map, filter, flat_map, suc, Option, option_map, Result, Vec}
use Rattle.med_value.specs.declared.cause.Cause.{Cause}
use Rattle.med_syntax.specs.Prelude.{Name, ExprTree, ExprTrees, ItemTree, EntryTree, JoinTree, ChainTree, GroupTree, KeyTree, CoreTree, SelectTree, expr_tree}
use Rattle.tri_expr.specs.declared.expr.Expr.{Expr}
use Rattle.tri_expr.specs.Tree.{Tree, part, tree, trees}
use Rattle.med_query.specs.declared.select.Join.{Join}
use Rattle.med_query.specs.declared.select.JoinChain.{JoinChain}
use Rattle.med_query.specs.declared.select.Grouping.{Grouping}
use Rattle.med_query.specs.Form.{join_form, chain_form, group_form}
use Rattle.bind_names.specs.Prelude.{TableShape, Scope, entry_shape, name_causes, name_causes_of_all, condition_name_causes, on_name_causes, joins_name_causes, chain_name_causes, item_name_causes, sort_key_causes, key_name_causes, place_name_causes, order_causes_in, group_name_causes, Means, Adds}
use Rattle.bind_names.specs.Meaning.{resolved, resolved_all, conditions_of, join_meant, joins_meant, chain_meant, chains_meant, Output, outputs_of, item_outputs, is_named, SortKey, position, output_name, expression, sorted_by, key_meant, key_place, Sorting as SortingForm, by_keys, by_places, sorting_in, group_place, groups_rows, group_of}
use Rattle.bind_query.specs.declared.outputs.Shown.{Shown}
use Rattle.bind_query.specs.declared.keys.KeyForm.{KeyForm}
use Rattle.bind_query.specs.declared.keys.KeyForm.TheVariants.{Position, Named, Expressed}
use Rattle.bind_query.specs.declared.sorting.Sorting.{Sorting}
use Rattle.bind_query.specs.declared.sorting.Sorting.TheVariants.{Keys, Places}
use Rattle.bind_query.specs.Shown.{output_of}

-- ---- expressions

-- an expression, seen by view
abbrev pub ResolvesBy : {X : Type 0} → (X → Tree) → Scope → ExprTree → Result X Cause → Type 0
ResolvesBy view s e = Means view (name_causes s e) (resolved s e)

abbrev pub Resolves : Scope → ExprTree → Result Expr Cause → Type 0
Resolves = ResolvesBy tree

-- the expressions of a list
abbrev pub ResolvesAll : {A : Type 0} → Scope → ExprTrees → Result (Vec Expr A) Cause → Type 0
ResolvesAll {A} s es = Means (λ (v : Vec Expr A). trees (map tree v.items)) (name_causes_of_all s es) (resolved_all s es)

-- the same behind a first one, which is resolved
abbrev pub ResolvesBehind : {A : Type 0} → Tree → Scope → ExprTrees → Result (Vec Expr A) Cause → Type 0
ResolvesBehind {A} first s es =
    Means (λ (v : Vec Expr A). trees (map tree v.items)) (name_causes_of_all s es) (part first (resolved_all s es))

-- the conjuncts of WHERE, HAVING or ON; none without it
abbrev pub ResolvesCondition : {A : Type 0} → Scope → Option ExprTree → Result (Vec Expr A) Cause → Type 0
ResolvesCondition {A} s e = Means (λ (v : Vec Expr A). map tree v.items) (condition_name_causes s e) (conditions_of s e)

-- ---- FROM

abbrev pub ResolvesJoin : Scope → ℕ → ℕ → JoinTree → Result Join Cause → Type 0
ResolvesJoin s number width j = Means join_form (on_name_causes s j) (join_meant s number width j)

-- the joins behind the entry of this number
abbrev pub ResolvesJoins : {A : Type 0} → List TableShape → EntryTree → ℕ → List JoinTree → Result (Vec Join A) Cause → Type 0
ResolvesJoins {A} tables first number js =
    let s = entry_shape tables first ∷ [] in
    Means (λ (v : Vec Join A). map join_form v.items) (joins_name_causes tables s js) (joins_meant tables s (suc number) js)

abbrev pub ResolvesChain : List TableShape → ℕ → ChainTree → Result JoinChain Cause → Type 0
ResolvesChain tables number c = Means chain_form (chain_name_causes tables c) (chain_meant tables number c)

abbrev pub ResolvesChains : {A : Type 0} → List TableShape → ℕ → List ChainTree → Result (Vec JoinChain A) Cause → Type 0
ResolvesChains {A} tables number cs =
    Means (λ (v : Vec JoinChain A). map chain_form v.items) (flat_map (chain_name_causes tables) cs) (chains_meant tables number cs)

-- ---- items

-- these stand behind the outputs that were there
abbrev pub AddsShown : List Cause → List Output → List Shown → List Shown → Result Unit Cause → Type 0
AddsShown causes more old new = Adds causes more (map output_of old) (map output_of new)

abbrev pub AddsItem : Scope → ItemTree → List Shown → List Shown → Result Unit Cause → Type 0
AddsItem s item = AddsShown (item_name_causes s item) (item_outputs s item)

abbrev pub AddsItems : Scope → List ItemTree → List Shown → List Shown → Result Unit Cause → Type 0
AddsItems s items = AddsShown (flat_map (item_name_causes s) items) (flat_map (item_outputs s) items)

abbrev pub ResolvesItems : {A : Type 0} → Scope → List ItemTree → Result (Vec Shown A) Cause → Type 0
ResolvesItems {A} s items = Means (λ (v : Vec Shown A). map output_of v.items) (flat_map (item_name_causes s) items) (outputs_of s items)

-- ---- ORDER BY

abbrev pub key_form : KeyForm → SortKey
key_form (Position n) = position n
key_form (Named n) = output_name n.now
key_form (Expressed e) = expression (expr_tree e.now)

-- the outputs of a name
abbrev pub outputs_named : Name → List Shown → List Output
outputs_named n outs = filter (is_named n) (map output_of outs)

abbrev pub SortsBy : Scope → Bool → List Output → SortKey → Result Expr Cause → Type 0
SortsBy s unique outs k = Means tree (sort_key_causes s unique outs k) (sorted_by s outs k)

abbrev pub ResolvesKeys : {A : Type 0} → Scope → Bool → List Output → List KeyTree → Result (Vec Expr A) Cause → Type 0
ResolvesKeys {A} s unique outs ks =
    Means (λ (v : Vec Expr A). map tree v.items) (flat_map (key_name_causes s unique outs) ks) (map (key_meant s outs) ks)

-- the places of the outputs that keys mean in a query with UNION ALL
abbrev pub PlacesKeys : {A : Type 0} → List Output → List KeyTree → Result (Vec ℕ A) Cause → Type 0
PlacesKeys {A} outs ks = Means (λ (v : Vec ℕ A). v.items) (flat_map (place_name_causes outs) ks) (map (key_place outs) ks)

abbrev pub sorting_form : Sorting → SortingForm
sorting_form (Keys keys) = by_keys (map tree keys.items)
sorting_form (Places places) = by_places places.items

-- by what the rows of a query are sorted, the first core having this in view and these outputs
abbrev pub SortsRows : Scope → List Output → SelectTree → Result Sorting Cause → Type 0
SortsRows s outs q = Means sorting_form (order_causes_in s outs q) (sorting_in s outs q)

-- ---- GROUP BY

abbrev pub FindsPlaces : {A : Type 0} → Scope → List GroupTree → Result (Vec ℕ A) Cause → Type 0
FindsPlaces {A} s gs = Means (λ (v : Vec ℕ A). v.items) (flat_map (group_name_causes s) gs) (map (group_place s) gs)

-- what a core shows: its order keys and its items
abbrev pub shown_trees : List Expr → List Expr → List Tree
shown_trees keys items = map tree keys ++ map tree items

-- the groups of a core that shows this, by the columns in these places
abbrev pub GroupsBy : CoreTree → List ℕ → List Expr → List Tree → Result (Option Grouping) Cause → Type 0
GroupsBy c places having shown = Means (option_map group_form) [] (group_of (groups_rows c shown) places (map tree having) shown)
