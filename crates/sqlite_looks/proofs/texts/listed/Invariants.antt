use Rattle.std.proofs.Common.{◌≡◌, ◌++◌, map, string_bytes, List, length, ℕ, Bor}
use Rattle.sqlite_looks.specs.Texts.{listed}
use Rattle.sqlite_looks.proofs.texts.listed.Given as goal

-- the names so far, and those that are left, are all
abbrev pub invariant-loop-left : goal.invariant-loop-left
invariant-loop-left l =
    string_bytes l.text ++ listed (map (λ (name : Bor (List ℕ)). name.now) l.left)
    ≡ listed (map (λ (name : Bor (List ℕ)). name.now) l.columns)

abbrev pub decreases-loop-left : goal.decreases-loop-left
decreases-loop-left l = length l.left
