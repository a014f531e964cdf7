-- What looking up the names of a query answers.
use Rattle.std.specs.Prelude.{◌≡◌, ℕ, ◌+◌, List, [], ◌∷◌, ◌++◌, length, map, flat_map, string_bytes, Result, Ok, Err}
use Rattle.med_value.specs.declared.cause.Cause.{Cause}
use Rattle.med_value.specs.declared.cause.Cause.TheVariants.{OutOfMemory}
use Rattle.med_syntax.specs.QueryTree.{CoreTree, SelectTree}
use Rattle.tri_expr.specs.Tree.{Tree, tree}
use Rattle.med_query.specs.Form.{CoreForm, chain_form, core_form}
use Rattle.med_query.specs.declared.select.SelectCore.{SelectCore}
use Rattle.bind_names.specs.Prelude.{TableShape, Scope, columns_of, entries_of, chain_name_causes, condition_name_causes, group_name_causes, core_causes_in, core_asked_causes, order_name_causes, asked_causes, select_name_causes, Output, output_values, core_outputs, conditions_of, chains_meant, group_place, groups_rows, group_of, group_meant, Sorting, by_keys, by_places, keys_sorting, sorting_of, core_meant, cores_meant, meant_in, TellsCause}
use Rattle.bind_types.specs.Kinds.{types_in}
use Rattle.bind_types.specs.TreeTypes.{tree_type, column_kinds}
use Rattle.bind_types.specs.Typing.{core_types, answer_types}
use Rattle.bind_query.specs.Resolving.{sorting_form}
use Rattle.med_binder.specs.Binding.{AsksMeant, bound_kinds}
use Rattle.med_binder.specs.declared.bound.BoundEntry.{BoundEntry}
use Rattle.med_binder.specs.declared.bound.BoundQuery.{BoundQuery}
use Rattle.med_binder.specs.declared.cores.AskedCore.{AskedCore}
use Rattle.med_binder.specs.declared.cores.Columns.{Columns}
use Rattle.med_binder.specs.declared.cores.FirstCore.{FirstCore}
use Rattle.med_binder.specs.declared.cores.ResolvedCore.{ResolvedCore}
use Rattle.med_binder.specs.declared.cores.ResolvedCores.{ResolvedCores}
use Rattle.med_binder.specs.declared.cores.SortedCore.{SortedCore}

-- the names and the expressions of the outputs
pub record AreColumns (outs : List Output) (c : Columns) : Type 0 where
  pub names : map string_bytes c.names.items ≡ map (λ (o : Output). o.name) outs
  pub items : map tree c.items.items ≡ output_values outs

abbrev pub Splits : List Output → Result Columns Cause → Type 0
Splits outs (Ok c) = AreColumns outs c
Splits outs (Err c) = c ≡ OutOfMemory

-- ---- one core

-- the causes of names of what it asks beside its items
abbrev pub parts_causes : List TableShape → Scope → CoreTree → List Cause
parts_causes tables s c =
    flat_map (chain_name_causes tables) c.from ++ (condition_name_causes s c.condition
    ++ (flat_map (group_name_causes s) c.groups ++ condition_name_causes s c.having))

-- these parts, their names being resolved; its first entry has this number
pub record IsAsked (tables : List TableShape) (s : Scope) (number : ℕ) (c : CoreTree) (a : AskedCore) : Type 0 where
  pub from : map chain_form a.from.items ≡ chains_meant tables number c.from
  pub conditions : map tree a.conditions.items ≡ conditions_of s c.condition
  pub places : a.places.items ≡ map (group_place s) c.groups
  pub having : map tree a.having.items ≡ conditions_of s c.having

abbrev pub Asks : List TableShape → Scope → ℕ → CoreTree → Result AskedCore Cause → Type 0
Asks tables s number c (Ok a) = IsAsked tables s number c a × (parts_causes tables s c ≡ [])
Asks tables s number c (Err x) = TellsCause (core_causes_in tables s c) x

-- the form with these parts, which shows these items and is sorted by these keys
abbrev pub core_with : CoreTree → List Tree → List Tree → AskedCore → CoreForm
core_with c items keys a = record {
  from = map chain_form a.from.items;
  conditions = map tree a.conditions.items;
  group = group_of (groups_rows c (keys ++ items)) a.places.items (map tree a.having.items) (keys ++ items);
  items = items;
  distinct = c.distinct;
  keys = keys;
}

abbrev pub Assembles : CoreTree → List Tree → List Tree → AskedCore → Result SelectCore Cause → Type 0
Assembles c items keys a (Ok k) = core_form k ≡ core_with c items keys a
Assembles c items keys a (Err x) = x ≡ OutOfMemory

-- what it means where it shows these items and is sorted by these keys
abbrev pub core_over : List TableShape → Scope → ℕ → CoreTree → List Tree → List Tree → CoreForm
core_over tables s number c items keys = record {
  from = chains_meant tables number c.from;
  conditions = conditions_of s c.condition;
  group = group_meant s c (keys ++ items);
  items = items;
  distinct = c.distinct;
  keys = keys;
}

pub record IsCompleted (tables : List TableShape) (s : Scope) (number : ℕ) (c : CoreTree) (items keys : List Tree) (r : ResolvedCore)
    : Type 0 where
  pub form : core_form r.core ≡ core_over tables s number c items keys
  pub kinds : types_in r.kinds ≡ map (tree_type (column_kinds (columns_of s))) items
  pub clear : parts_causes tables s c ≡ []

abbrev pub Completes : List TableShape → Scope → ℕ → CoreTree → List Tree → List Tree → Result ResolvedCore Cause → Type 0
Completes tables s number c items keys (Ok r) = IsCompleted tables s number c items keys r
Completes tables s number c items keys (Err x) = TellsCause (core_causes_in tables s c) x

-- what it means, and the types of its outputs
pub record IsResolved (tables : List TableShape) (sorting : Sorting) (number : ℕ) (c : CoreTree) (r : ResolvedCore) : Type 0 where
  pub form : core_form r.core ≡ core_meant tables sorting number c
  pub kinds : types_in r.kinds ≡ core_types tables c
  pub clear : core_asked_causes tables c ≡ []

abbrev pub ResolvesCore : List TableShape → Sorting → ℕ → CoreTree → Result ResolvedCore Cause → Type 0
ResolvesCore tables sorting number c (Ok r) = IsResolved tables sorting number c r
ResolvesCore tables sorting number c (Err x) = TellsCause (core_asked_causes tables c) x

-- ---- the first core

-- Where a query is sorted by what its cores show in places, so are the cores behind the first; else it has no other core.
abbrev pub Leaves : Sorting → Sorting → Type 0
Leaves (by_keys keys) rest = Unit {0}
Leaves (by_places places) rest = rest ≡ by_places places

-- the keys of a core with these items, and by what the rows of the others are sorted
pub record AreSorted (sorting : Sorting) (items : List Tree) (s : SortedCore) : Type 0 where
  pub keys : map tree s.keys.items ≡ keys_sorting sorting items
  pub others : Leaves sorting (sorting_form s.others)

abbrev pub Sorts : Sorting → List Tree → Result SortedCore Cause → Type 0
Sorts sorting items (Ok s) = AreSorted sorting items s
Sorts sorting items (Err c) = c ≡ OutOfMemory

-- the names of its outputs, what it means, and by what the rows of the others are sorted
pub record IsFirstCore (tables : List TableShape) (q : SelectTree) (f : FirstCore) : Type 0 where
  pub names : map string_bytes f.names.items ≡ map (λ (o : Output). o.name) (core_outputs tables q.core)
  pub found : IsResolved tables (sorting_of tables q) 0 q.core f.found
  pub sorting : Leaves (sorting_of tables q) (sorting_form f.sorting)
  pub clear : order_name_causes tables q ≡ []

abbrev pub Begins : List TableShape → SelectTree → Result FirstCore Cause → Type 0
Begins tables q (Ok f) = IsFirstCore tables q f
Begins tables q (Err c) = TellsCause (asked_causes tables q) c

-- ---- all cores

-- one core more behind those that were there, and the number of the next entry
pub record IsAdded (tables : List TableShape) (sorting : Sorting) (number : ℕ) (c : CoreTree) (old new : ResolvedCores) (next : ℕ)
    : Type 0 where
  pub forms : map core_form new.cores.items ≡ map core_form old.cores.items ++ core_meant tables sorting number c ∷ []
  pub kinds : map types_in new.kinds.items ≡ map types_in old.kinds.items ++ core_types tables c ∷ []
  pub behind : next ≡ number + length (entries_of c.from)
  pub clear : core_asked_causes tables c ≡ []

abbrev pub AddsCore : List TableShape → Sorting → ℕ → CoreTree → ResolvedCores → ResolvedCores → Result ℕ Cause → Type 0
AddsCore tables sorting number c old new (Ok next) = IsAdded tables sorting number c old new next
AddsCore tables sorting number c old new (Err x) = TellsCause (core_asked_causes tables c) x

-- the same of one core after another
pub record AreAdded (tables : List TableShape) (sorting : Sorting) (number : ℕ) (cs : List CoreTree) (old new : ResolvedCores) : Type 0 where
  pub forms : map core_form new.cores.items ≡ map core_form old.cores.items ++ cores_meant tables sorting number cs
  pub kinds : map types_in new.kinds.items ≡ map types_in old.kinds.items ++ map (core_types tables) cs
  pub clear : flat_map (core_asked_causes tables) cs ≡ []

abbrev pub AddsCores : List TableShape → Sorting → ℕ → List CoreTree → ResolvedCores → ResolvedCores → Result Unit Cause → Type 0
AddsCores tables sorting number cs old new (Ok x) = AreAdded tables sorting number cs old new
AddsCores tables sorting number cs old new (Err x) = TellsCause (flat_map (core_asked_causes tables) cs) x

-- this core, and those behind the first
pub record AreBehind (tables : List TableShape) (sorting : Sorting) (q : SelectTree) (first : ResolvedCore) (r : ResolvedCores) : Type 0 where
  pub forms : map core_form r.cores.items
      ≡ core_form first.core ∷ cores_meant tables sorting (0 + length (entries_of q.core.from)) q.others
  pub kinds : map types_in r.kinds.items ≡ types_in first.kinds ∷ map (core_types tables) q.others
  pub clear : flat_map (core_asked_causes tables) q.others ≡ []

abbrev pub ResolvesOthers : List TableShape → Sorting → SelectTree → ResolvedCore → Result ResolvedCores Cause → Type 0
ResolvesOthers tables sorting q first (Ok r) = AreBehind tables sorting q first r
ResolvesOthers tables sorting q first (Err x) = TellsCause (flat_map (core_asked_causes tables) q.others) x

-- ---- the whole

-- no cause of names stands, and the query asks what is meant, over these entries
pub record IsLookedUp (tables : List TableShape) (q : SelectTree) (es : List BoundEntry) (b : BoundQuery) : Type 0 where
  pub meant : AsksMeant (meant_in tables q) b
  pub entries : b.entries.items ≡ es
  pub kinds : bound_kinds b ≡ answer_types tables q
  pub clear : select_name_causes tables q ≡ []

abbrev pub LooksUp : List TableShape → SelectTree → List BoundEntry → Result BoundQuery Cause → Type 0
LooksUp tables q es (Ok b) = IsLookedUp tables q es b
LooksUp tables q es (Err c) = TellsCause (select_name_causes tables q) c
