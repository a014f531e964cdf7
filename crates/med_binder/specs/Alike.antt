-- Columns that are compared have one type (SQL:2016, 8.2 <comparison predicate>): said of the conjuncts of WHERE and ON, which are what a
-- scan may be offered.
use Rattle.std.specs.Prelude.{◌≡◌, ℕ, suc, ◌-◌, List, [], map, flat_map, take, drop, All, Some, slice_get, slice_index_or}
use Rattle.med_value.specs.declared.value.ColType.{ColType}
use Rattle.med_value.specs.declared.order.Comparison.{Comparison}
use Rattle.med_value.specs.Column.{Column}
use Rattle.med_syntax.specs.QueryTree.{StatementTree, select}
use Rattle.tri_expr.specs.Prelude.{Tree, column, compare, bare}
use Rattle.med_query.specs.Form.{JoinForm, cross_form, inner_form, left_form, ChainForm, CoreForm, Form}
use Rattle.bind_names.specs.Scope.{TableShape, Scope, query_scope}
use Rattle.med_binder.specs.Counted.{core_numbers}

-- the types of columns
abbrev pub kinds_among : List Column → List ColType
kinds_among = map (λ (c : Column). c.kind)

-- of those that each entry of FROM brings
abbrev pub kinds : Scope → List (List ColType)
kinds = map (λ (e : TableShape). kinds_among e.columns)

abbrev pub from_kinds : List TableShape → StatementTree → List (List ColType)
from_kinds tables (select q) = kinds (query_scope tables q)

-- of those that all of these entries bring, one entry after another
abbrev pub all_kinds : List (List ColType) → List ColType
all_kinds = flat_map (λ (ks : List ColType). ks)

-- of those that the entries from one number to another bring, both of them with theirs
abbrev pub kinds_between : List (List ColType) → ℕ → ℕ → List ColType
kinds_between kss first last = all_kinds (take (suc last - first) (drop first kss))

-- the columns at two places have one type
pub record AreAlike (ks : List ColType) (a b : ℕ) : Type 0 where
  pub kind : ColType
  pub left : slice_get ks a ≡ Some kind
  pub right : slice_get ks b ≡ Some kind

-- a condition that compares two columns, parentheses looked through, compares two of one type
abbrev pub ComparesAlike : List ColType → Tree → Type 0
ComparesAlike ks t = (op : Comparison) (a b : ℕ) → bare t ≡ compare op (column a) (column b) → AreAlike ks a b

-- ON of a join sees the entries of its chain up to its own
abbrev pub JoinAlike : List (List ColType) → ℕ → JoinForm → Type 0
JoinAlike kss first (cross_form number) = Unit {0}
JoinAlike kss first (inner_form number on) = All (ComparesAlike (kinds_between kss first number)) on
JoinAlike kss first (left_form number width on) = All (ComparesAlike (kinds_between kss first number)) on

abbrev pub ChainAlike : List (List ColType) → ChainForm → Type 0
ChainAlike kss c = All (JoinAlike kss c.first) c.joins

-- of those that each entry of a core brings, of all these
abbrev pub core_kinds : List (List ColType) → CoreForm → List (List ColType)
core_kinds kss f = map (λ (number : ℕ). slice_index_or kss number []) (core_numbers f)

-- WHERE sees all entries of its core
pub record CoreAlike (kss : List (List ColType)) (f : CoreForm) : Type 0 where
  pub joins : All (ChainAlike kss) f.from
  pub conditions : All (ComparesAlike (all_kinds (core_kinds kss f))) f.conditions

-- the same of each core
abbrev pub FormAlike : List (List ColType) → Form → Type 0
FormAlike kss f = All (CoreAlike kss) f.cores
