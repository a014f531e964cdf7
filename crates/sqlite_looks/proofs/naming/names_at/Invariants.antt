use Rattle.std.proofs.Common.{◌≡◌, ◌++◌, map, List, length, ℕ, Bor}
use Rattle.std.specs.Option.{option_map}
use Rattle.sqlite_looks.specs.Found.{names_at}
use Rattle.sqlite_looks.proofs.naming.names_at.Given as goal

-- the names so far, and those of what is left, are all
abbrev pub invariant-loop-at : goal.invariant-loop-at
invariant-loop-at l =
    option_map (λ more. map (λ (name : Bor (List ℕ)). name.now) l.names.items ++ more) (names_at l.columns l.left)
    ≡ names_at l.columns l.initial.left

abbrev pub decreases-loop-at : goal.decreases-loop-at
decreases-loop-at l = length l.left
