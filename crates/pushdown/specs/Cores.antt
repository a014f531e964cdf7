-- The columns that what is left of a core reads of its one table, and queries of such cores over tables that agree on them.
use Rattle.std.specs.Prelude.{◌≡◌, ℕ, zero, suc, List, [], ◌∷◌, ◌++◌, map, length, Option, Some, None, option_map}
use Rattle.med_value.specs.Datum.{Tuple}
use Rattle.tri_expr.specs.declared.expr.Expr.{Expr}
use Rattle.med_query.specs.Prelude.{Core, Query, Tables, Table, IsAnswer, joined, kept, core_faults, core_outputs, faults, outputs, senses, GroupForm, group_form, core_of}
use Rattle.med_query.specs.declared.select.SelectCore.{SelectCore}
use Rattle.pushdown.specs.Joins.{Each}
use Rattle.pushdown.specs.Columns.{tree_columns, columns_of, AgreeOn}

-- a core over the table of this number alone, of whose WHERE these conjuncts are left
abbrev pub one_core : ℕ → SelectCore → List Expr → Core
one_core table s conditions = record {
  from = Table table ∷ [];
  where_ = senses [] conditions;
  group = (core_of s).group;
  items = (core_of s).items;
  distinct = (core_of s).distinct;
  keys = (core_of s).keys;
}

-- the columns of GROUP BY, of the arguments of aggregates, and of HAVING
abbrev pub group_columns : Option GroupForm → List ℕ
group_columns None = []
group_columns (Some g) = g.keys ++ (tree_columns g.arguments ++ tree_columns g.having)

-- the columns that it reads of a row
abbrev pub core_columns : SelectCore → List Expr → List ℕ
core_columns s conditions =
    columns_of conditions
    ++ (group_columns (option_map group_form s.grouping) ++ (columns_of s.items.items ++ columns_of s.keys.items))

-- a core over tables and over others: rows that agree on these columns, the same faults that may be told, and the same outputs
pub record SeesTheSame (columns : List ℕ) (c : Core) (db seen : Tables) : Type 0 where
  pub joined_rows : AgreeOn columns (joined c db) (joined c seen)
  pub kept_rows : AgreeOn columns (kept c db) (kept c seen)
  pub told : core_faults c db ≡ core_faults c seen
  pub given : core_outputs c db ≡ core_outputs c seen
  pub many : length (kept c db) ≡ length (kept c seen)

-- What is left of a core sees the same where its tables agree on the columns that it reads, whatever stands in the others.
abbrev pub CoresReadTheirColumns : Type 0
CoresReadTheirColumns = (table : ℕ) (s : SelectCore) (conditions : List Expr) (db seen : Tables)
    → AgreeOn (core_columns s conditions) (db table) (seen table)
    → SeesTheSame (core_columns s conditions) (one_core table s conditions) db seen

-- ---- queries

-- a query over tables and over others: the same answers, faults, outputs, and kept rows of each core
pub record AnswersTheSame (q : Query) (db seen : Tables) : Type 0 where
  pub answers : (rows : List Tuple) → IsAnswer q db rows → IsAnswer q seen rows
  pub back : (rows : List Tuple) → IsAnswer q seen rows → IsAnswer q db rows
  pub told : faults q db ≡ faults q seen
  pub given : outputs q db ≡ outputs q seen
  pub many : map (λ c. length (kept c db)) q.cores ≡ map (λ c. length (kept c seen)) q.cores

-- a core is what is left of one over a table that agrees with the other on the columns that it reads
pub record IsSeen (db seen : Tables) (c : Core) : Type 0 where
  pub table : ℕ
  pub core : SelectCore
  pub conditions : List Expr
  pub is : c ≡ one_core table core conditions
  pub agrees : AgreeOn (core_columns core conditions) (db table) (seen table)

-- A query of such cores answers the same.
abbrev pub QueriesReadTheirColumns : Type 0
QueriesReadTheirColumns = (q : Query) (db seen : Tables) → Each (IsSeen db seen) q.cores → AnswersTheSame q db seen

-- what is left of each of several cores, over one table after another, where of a core's WHERE these conjuncts are left
abbrev pub one_cores : (SelectCore → List Expr) → ℕ → List SelectCore → List Core
one_cores left table [] = []
one_cores left table (s ∷ ss) = one_core table s (left s) ∷ one_cores left (suc table) ss

-- the tables of these cores agree each on the columns that its core reads
abbrev pub TablesAgree : (SelectCore → List Expr) → ℕ → List SelectCore → (db seen : Tables) → Type 0
TablesAgree left table [] db seen = Unit {0}
TablesAgree left table (s ∷ ss) db seen =
    AgreeOn (core_columns s (left s)) (db table) (seen table) × TablesAgree left (suc table) ss db seen

-- A query of what is left of these cores answers the same.
abbrev pub TablesReadTheirColumns : Type 0
TablesReadTheirColumns = (left : SelectCore → List Expr) (table : ℕ) (ss : List SelectCore) (q : Query) (db seen : Tables)
    → q.cores ≡ one_cores left table ss → TablesAgree left table ss db seen → AnswersTheSame q db seen

-- lists of rows as tables, numbered from 0 on; a table that is not there has no row
abbrev pub in_turn : List (List Tuple) → Tables
in_turn [] k = []
in_turn (rows ∷ more) zero = rows
in_turn (rows ∷ more) (suc k) = in_turn more k

-- a list of rows for each core, and another that agrees with it on the columns that the core reads
abbrev pub AllAgree : (SelectCore → List Expr) → List SelectCore → (given seen : List (List Tuple)) → Type 0
AllAgree left [] [] [] = Unit {0}
AllAgree left (s ∷ ss) (rows ∷ given) (others ∷ seen) = AgreeOn (core_columns s (left s)) rows others × AllAgree left ss given seen
AllAgree left ss given seen = ⊥

-- A query of what is left of these cores answers the same over the one lists and over the others.
abbrev pub ListsReadTheirColumns : Type 0
ListsReadTheirColumns = (left : SelectCore → List Expr) (ss : List SelectCore) (q : Query) (given seen : List (List Tuple))
    → q.cores ≡ one_cores left 0 ss → AllAgree left ss given seen → AnswersTheSame q (in_turn given) (in_turn seen)
