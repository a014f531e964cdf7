-- Texts in parts.
use Rattle.std.specs.Prelude.{ℕ, List, [], ◌∷◌, ◌++◌, codes}
use Rattle.std.specs.Borrow.{Bor}

-- these parts one behind the other
abbrev pub joined : List (Bor (List ℕ)) → List ℕ
joined [] = []
joined (part ∷ parts) = part.now ++ joined parts

-- the line of these parts
abbrev pub line_of : List (Bor (List ℕ)) → List ℕ
line_of parts = codes "fedq: " ++ (joined parts ++ codes "\n")
