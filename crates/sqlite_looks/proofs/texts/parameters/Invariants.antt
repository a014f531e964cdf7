use Rattle.std.proofs.Common.{◌≡◌, ◌++◌, map, string_bytes, List, length, ℕ, Bor}
use Rattle.sqlite_looks.specs.Texts.{parameters}
use Rattle.sqlite_looks.proofs.texts.parameters.Given as goal

-- the parameters so far, and those that are left, are all
abbrev pub invariant-loop-left : goal.invariant-loop-left
invariant-loop-left l =
    string_bytes l.text ++ parameters (map (λ (name : Bor (List ℕ)). name.now) l.left)
    ≡ parameters (map (λ (name : Bor (List ℕ)). name.now) l.columns)

abbrev pub decreases-loop-left : goal.decreases-loop-left
decreases-loop-left l = length l.left
