-- What is asked over rows of so many cells: each column of it is one of these. The entries of FROM are in view from the left on, each with
-- the columns of its table.
use Rattle.std.specs.Prelude.{ℕ, suc, ◌-◌, ◌<◌, List, length, map, sum, take, drop, All, Option, Some, None}
use Rattle.med_syntax.specs.QueryTree.{StatementTree, select}
use Rattle.tri_expr.specs.Tree.{Tree, Trees, column, parameter, literal, compare, compute, negate, all_of, some_of, opposite, asks, between, within, matches, parenthesised, count_rows, aggregate, none, part}
use Rattle.med_query.specs.Form.{JoinForm, cross_form, inner_form, left_form, ChainForm, GroupForm, CoreForm, Form}
use Rattle.bind_names.specs.Scope.{TableShape, Scope, query_scope}
use Rattle.med_binder.specs.Counted.{core_widths}

-- each place in a list of tables is that of one of them
abbrev pub ArePlacesOf : List TableShape → List ℕ → Type 0
ArePlacesOf tables = All (λ (place : ℕ). place < length tables)

-- each column of an expression stands below this place, in an argument of an aggregate too
abbrev mutual
  pub IsWithin : ℕ → Tree → Type 0
  IsWithin w (column at) = at < w
  IsWithin w (parameter n) = Unit {0}
  IsWithin w (literal v) = Unit {0}
  IsWithin w (compare op a b) = IsWithin w a × IsWithin w b
  IsWithin w (compute op a b) = IsWithin w a × IsWithin w b
  IsWithin w (negate a) = IsWithin w a
  IsWithin w (all_of ts) = AreWithin w ts
  IsWithin w (some_of ts) = AreWithin w ts
  IsWithin w (opposite a) = IsWithin w a
  IsWithin w (asks t negative a) = IsWithin w a
  IsWithin w (between negative x a b) = IsWithin w x × IsWithin w a × IsWithin w b
  IsWithin w (within negative x ts) = IsWithin w x × AreWithin w ts
  IsWithin w (matches negative x pattern) = IsWithin w x
  IsWithin w (parenthesised a) = IsWithin w a
  IsWithin w count_rows = Unit {0}
  IsWithin w (aggregate function a) = IsWithin w a

  pub AreWithin : ℕ → Trees → Type 0
  AreWithin w none = Unit {0}
  AreWithin w (part t ts) = IsWithin w t × AreWithin w ts

-- how many columns each entry of FROM brings
abbrev pub widths : Scope → List ℕ
widths = map (λ (e : TableShape). length e.columns)

abbrev pub widths_of : List TableShape → StatementTree → List ℕ
widths_of tables (select q) = widths (query_scope tables q)

-- how many columns the entries from one number to another bring, both of them with theirs
abbrev pub width_between : List ℕ → ℕ → ℕ → ℕ
width_between ws first last = sum (take (suc last - first) (drop first ws))

-- ON of a join sees the entries of its chain up to its own
abbrev pub JoinWithin : List ℕ → ℕ → JoinForm → Type 0
JoinWithin ws first (cross_form number) = Unit {0}
JoinWithin ws first (inner_form number on) = All (IsWithin (width_between ws first number)) on
JoinWithin ws first (left_form number width on) = All (IsWithin (width_between ws first number)) on

abbrev pub ChainWithin : List ℕ → ChainForm → Type 0
ChainWithin ws c = All (JoinWithin ws c.first) c.joins

-- the keys of GROUP BY, the arguments of aggregates and HAVING
abbrev pub GroupWithin : ℕ → Option GroupForm → Type 0
GroupWithin w None = Unit {0}
GroupWithin w (Some g) = All (λ (place : ℕ). place < w) g.keys × All (IsWithin w) g.arguments × All (IsWithin w) g.having

-- ON sees the entries on its left, all else the columns of all entries of its core
pub record CoreWithin (ws : List ℕ) (f : CoreForm) : Type 0 where
  pub joins : All (ChainWithin ws) f.from
  pub conditions : All (IsWithin (sum (core_widths ws f))) f.conditions
  pub group : GroupWithin (sum (core_widths ws f)) f.group
  pub items : All (IsWithin (sum (core_widths ws f))) f.items
  pub keys : All (IsWithin (sum (core_widths ws f))) f.keys

-- the same of each core
abbrev pub FormWithin : List ℕ → Form → Type 0
FormWithin ws f = All (CoreWithin ws) f.cores
