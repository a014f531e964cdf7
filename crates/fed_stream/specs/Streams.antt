-- What is seen of a stream that is read or written.
use Rattle.std.specs.Prelude.{◌≡◌, ℕ, Option, List}

-- The bytes of a stream before and after: those that a reader has left, or those that a writer was given. `None` where it does
-- not tell them.
pub record Stream : Type 0 where
  pub before : Option (List ℕ)
  pub after : Option (List ℕ)

-- these bytes before, and those after
abbrev pub stream : Option (List ℕ) → Option (List ℕ) → Stream
stream before after = record { before = before; after = after }

-- nothing was read of it, or written to it
abbrev pub IsUntouched : Stream → Type 0
IsUntouched s = s.after ≡ s.before
