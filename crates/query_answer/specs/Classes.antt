-- The groups of rows, and what is kept of them.
use Rattle.std.specs.Prelude.{◌≡◌, ◌≤◌, ◌<◌, ℕ, List, [], ◌∷◌, All, map, length}
use Rattle.med_value.specs.Prelude.{Tuple, group_limit}
use Rattle.med_query.specs.Prelude.{tuple_eq, key_of}
use Rattle.query_answer.specs.Keys.{gathered, keys_after, numbers_after}
use Rattle.query_answer.specs.Running.{ClassesRun, HasRoom, IsSmall}
use Rattle.query_answer.specs.declared.leaves.Leaf.{Leaf}
use Rattle.query_answer.specs.declared.running.Running.{Running}

-- the groups of rows, in the order of their first rows; without keys all rows are one group
abbrev pub classes_so_far : List ℕ → List Tuple → List (List Tuple)
classes_so_far [] rows = rows ∷ []
classes_so_far (at ∷ ats) rows = gathered [] (numbers_after tuple_eq [] (map (key_of (at ∷ ats)) rows)) rows

-- the keys that these rows have, each once
abbrev pub keys_so_far : List ℕ → List Tuple → List Tuple
keys_so_far columns rows = keys_after tuple_eq [] (map (key_of columns) rows)

-- these keys, and what is kept of each group, are those of these rows
pub record KeepsGroups (columns : List ℕ) (leaves : List Leaf) (keys : List Tuple) (groups : List (List Running))
    (rows : List Tuple) : Type 0 where
  pub seen : (0 < length columns) → keys ≡ keys_so_far columns rows
  pub runs : ClassesRun leaves (classes_so_far columns rows) groups

-- the same of some rows, of which there are so many
abbrev pub KeepsSome : List ℕ → List Leaf → ℕ → List Tuple → List (List Running) → Type 0
KeepsSome columns leaves count keys groups =
    ∥ ((rows : List Tuple) × (count ≡ length rows) × (count ≤ group_limit) × KeepsGroups columns leaves keys groups rows) ∥₁

-- what is kept of a group has room for one more row
abbrev pub IsReady : List Leaf → List Running → Type 0
IsReady leaves group = (length leaves ≡ length group) × All HasRoom group × All IsSmall group

abbrev pub AreReady : List Leaf → List (List Running) → Type 0
AreReady leaves groups = All (IsReady leaves) groups

-- the same of some rows, to which one more may come
abbrev pub KeepsFew : List ℕ → List Leaf → List Tuple → List (List Running) → Type 0
KeepsFew columns leaves keys groups = ∥ ((rows : List Tuple) × (length rows < group_limit) × KeepsGroups columns leaves keys groups rows) ∥₁
