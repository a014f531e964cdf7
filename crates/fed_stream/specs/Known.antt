-- What is known of a thing before and after a call.
use Rattle.std.specs.Prelude.{Option, Some, None, ⊤}

-- What is known before is known after, and the two stand so to one another. Of what is not known nothing is said.
abbrev pub Known : {A : Type 0} → Option A → Option A → (A → A → Type 0) → Type 0
Known None new holds = ⊤
Known (Some old) None holds = ⊥
Known (Some old) (Some new) holds = holds old new
