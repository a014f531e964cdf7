-- Which words may name a source, or the owner.
use Rattle.std.specs.Prelude.{ℕ, List, Contains}
use Rattle.med_syntax.specs.Words.{reserved}
use Rattle.med_session.specs.Requests.{IsUser}

-- a user's name that is no reserved word
abbrev pub IsSourceName : List ℕ → Type 0
IsSourceName word = IsUser word × (Contains reserved word → ⊥)
