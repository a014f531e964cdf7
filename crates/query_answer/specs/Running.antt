-- What is kept of a leaf while rows of a class come, one after another.
use Rattle.std.specs.Prelude.{◌≡◌, ◌≤◌, ◌*◌, ◌^◌, ℕ, suc, Bool, true, List, [], ◌∷◌, map, filter, length, Option, Some, None, Vec}
use Rattle.std.specs.List.{list_all}
use Rattle.med_value.specs.Datum.{Datum, Tuple, cell, datum}
use Rattle.med_value.specs.declared.value.Value.{Value}
use Rattle.tri_expr.specs.declared.expr.SetFunction.{SetFunction}
use Rattle.tri_expr.specs.declared.expr.SetFunction.TheVariants.{Sum}
use Rattle.tri_expr.specs.Prelude.{is_present, total, has_cell, best_of, magnitude}
use Rattle.query_answer.specs.Leaves.{argument_values}
use Rattle.query_answer.specs.declared.leaves.Leaf.{Leaf}
use Rattle.query_answer.specs.declared.leaves.Leaf.TheVariants.{Column, Rows, Aggregate, Total}
use Rattle.query_answer.specs.declared.running.Tally.{Tally}
use Rattle.query_answer.specs.declared.running.Running.{Running}
use Rattle.query_answer.specs.declared.running.Running.TheVariants.{Shared, Counted, Tallied}

-- the value of the first row in a column, and whether all rows have it
abbrev pub SharesSoFar : ℕ → List Tuple → Option Value → Bool → Type 0
SharesSoFar at [] None same = same ≡ true
SharesSoFar at [] (Some v) same = ⊥
SharesSoFar at (r ∷ rs) None same = ⊥
SharesSoFar at (r ∷ rs) (Some v) same = (datum v ≡ cell r at) × (same ≡ list_all (has_cell at (cell r at)) rs)

-- how many values there are, their exact total, and the best of them
pub record TalliesSoFar (function : SetFunction) (vs : List Datum) (t : Tally) : Type 0 where
  pub count : t.count ≡ length (filter is_present vs)
  pub total : t.total ≡ total vs
  pub best : datum t.best ≡ best_of function vs
  pub small : magnitude t.total ≤ t.count * 2 ^ 63

-- what is kept of a leaf over the rows of a class so far
abbrev pub Runs : Leaf → List Tuple → Running → Type 0
Runs (Column at) c (Shared first same) = SharesSoFar at c first same
Runs Rows c (Counted rows) = rows ≡ length c
Runs (Aggregate function a) c (Tallied t) = TalliesSoFar function (argument_values a c) t
Runs (Total a) c (Tallied t) = TalliesSoFar Sum (argument_values a c) t
Runs l c r = ⊥

-- the same of each leaf, and of the leaves of each class
abbrev pub AllRun : List Leaf → List Tuple → List Running → Type 0
AllRun [] c [] = Unit {0}
AllRun (l ∷ ls) c (r ∷ rs) = Runs l c r × AllRun ls c rs
AllRun ls c rs = ⊥

abbrev pub runnings_in : {A : Type 0} → List (Vec Running A) → List (List Running)
runnings_in groups = map (λ g. g.items) groups

abbrev pub ClassesRun : List Leaf → List (List Tuple) → List (List Running) → Type 0
ClassesRun ls [] [] = Unit {0}
ClassesRun ls (c ∷ cs) (rs ∷ more) = AllRun ls c rs × ClassesRun ls cs more
ClassesRun ls cs more = ⊥

-- how many rows or values were counted
abbrev pub counted : Running → ℕ
counted (Shared first same) = 0
counted (Counted rows) = rows
counted (Tallied t) = t.count

-- there is room for one more
abbrev pub HasRoom : Running → Type 0
HasRoom r = suc (counted r) ≤ 2 ^ 62

-- a total has room in 128 bits
abbrev pub IsSmall : Running → Type 0
IsSmall (Tallied t) = magnitude t.total ≤ t.count * 2 ^ 63
IsSmall r = Unit {0}

-- an aggregate over these values, where anything is tallied
abbrev pub TalliesIn : SetFunction → List Datum → Running → Type 0
TalliesIn function vs (Tallied t) = TalliesSoFar function vs t
TalliesIn function vs r = ⊥
