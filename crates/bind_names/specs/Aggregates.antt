-- Where aggregates and columns may stand in a query that groups (SQL:2016, 7.13 <group by clause>, 10.9 <aggregate function>).
use Rattle.std.specs.Prelude.{ℕ, Bool, true, false, not, ◌||◌, ◌==◌, List}
use Rattle.std.specs.List.{list_any}
use Rattle.tri_expr.specs.Tree.{Tree, Trees, column, compare, compute, negate, all_of, some_of, opposite, asks, between, within, matches, parenthesised, count_rows, aggregate, none, part}

-- an aggregate stands in it
abbrev mutual
  pub has_aggregate : Tree → Bool
  has_aggregate (compare op a b) = has_aggregate a || has_aggregate b
  has_aggregate (compute op a b) = has_aggregate a || has_aggregate b
  has_aggregate (negate a) = has_aggregate a
  has_aggregate (all_of ts) = some_have_aggregate ts
  has_aggregate (some_of ts) = some_have_aggregate ts
  has_aggregate (opposite a) = has_aggregate a
  has_aggregate (asks t negative a) = has_aggregate a
  has_aggregate (between negative x a b) = has_aggregate x || (has_aggregate a || has_aggregate b)
  has_aggregate (within negative x ts) = has_aggregate x || some_have_aggregate ts
  has_aggregate (matches negative x pattern) = has_aggregate x
  has_aggregate (parenthesised a) = has_aggregate a
  has_aggregate count_rows = true
  has_aggregate (aggregate function a) = true
  has_aggregate _ = false

  pub some_have_aggregate : Trees → Bool
  some_have_aggregate none = false
  some_have_aggregate (part t ts) = has_aggregate t || some_have_aggregate ts

-- Over groups with these keys it has no one meaning: a column outside aggregates is no key, or an aggregate stands in an aggregate.
abbrev mutual
  pub is_ungrouped : List ℕ → Tree → Bool
  is_ungrouped keys (column at) = not (list_any (λ k. k == at) keys)
  is_ungrouped keys (compare op a b) = is_ungrouped keys a || is_ungrouped keys b
  is_ungrouped keys (compute op a b) = is_ungrouped keys a || is_ungrouped keys b
  is_ungrouped keys (negate a) = is_ungrouped keys a
  is_ungrouped keys (all_of ts) = some_ungrouped keys ts
  is_ungrouped keys (some_of ts) = some_ungrouped keys ts
  is_ungrouped keys (opposite a) = is_ungrouped keys a
  is_ungrouped keys (asks t negative a) = is_ungrouped keys a
  is_ungrouped keys (between negative x a b) = is_ungrouped keys x || (is_ungrouped keys a || is_ungrouped keys b)
  is_ungrouped keys (within negative x ts) = is_ungrouped keys x || some_ungrouped keys ts
  is_ungrouped keys (matches negative x pattern) = is_ungrouped keys x
  is_ungrouped keys (parenthesised a) = is_ungrouped keys a
  is_ungrouped keys (aggregate function a) = has_aggregate a
  is_ungrouped keys _ = false

  pub some_ungrouped : List ℕ → Trees → Bool
  some_ungrouped keys none = false
  some_ungrouped keys (part t ts) = is_ungrouped keys t || some_ungrouped keys ts
