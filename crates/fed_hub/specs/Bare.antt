-- Replies as a connection gets them: without the number of its session.
use Rattle.std.specs.Prelude.{ℕ, ◌==◌, Bool, true, false, if◌then◌else◌, List, [], ◌∷◌}

-- these bytes, where each line loses all up to its first space, and that; they begin with a line, or within one
abbrev pub bare_from : Bool → List ℕ → List ℕ
bare_from is_number [] = []
bare_from true (b ∷ bs) = if b == 32 then bare_from false bs else bare_from true bs
bare_from false (b ∷ bs) = b ∷ bare_from (b == 10) bs

-- a reply without the number that each of its lines begins with
abbrev pub bare : List ℕ → List ℕ
bare reply = bare_from true reply
