-- Numbers that rise.
use Rattle.std.specs.Prelude.{ℕ, Bool, true, ◌&&◌, List, [], ◌∷◌, nat_lt}

-- the first is above this one, and each of the others above the one before it
abbrev pub rise_from : ℕ → List ℕ → Bool
rise_from last [] = true
rise_from last (x ∷ xs) = nat_lt last x && rise_from x xs

-- each is above the one before it
abbrev pub are_rising : List ℕ → Bool
are_rising [] = true
are_rising (x ∷ xs) = rise_from x xs
