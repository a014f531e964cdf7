-- A pattern of LIKE, byte by byte.
use Rattle.std.proofs.Common.{ℕ, Bool, true, false, List, ◌∷◌}

-- the rest of a pattern, with the backslash before it that takes its first character
abbrev pub escaping : Bool → List ℕ → List ℕ
escaping true bs = 92 ∷ bs
escaping false bs = bs
