-- What is known of a thing before and after a call.
use Rattle.std.specs.Prelude.{Option, Some, None, ⊤}

-- What is known before is known after, and the two stand so to one another. What is not known stays so.
abbrev pub KnownBoth : {A : Type 0} → Option A → Option A → (A → A → Type 0) → Type 0
KnownBoth None None holds = ⊤
KnownBoth None (Some new) holds = ⊥
KnownBoth (Some old) None holds = ⊥
KnownBoth (Some old) (Some new) holds = holds old new

-- This holds of what is known. Of what is not known nothing is said.
abbrev pub Sure : {A : Type 0} → Option A → (A → Type 0) → Type 0
Sure None holds = ⊤
Sure (Some it) holds = holds it
