-- What reading paths to their end gives.
use Rattle.std.specs.Prelude.{ℕ, List, Option}

-- the bytes that reading each path to its end gives, or none where nothing can be read there
abbrev pub Inputs : Type 0
Inputs = List ℕ → Option (List ℕ)
