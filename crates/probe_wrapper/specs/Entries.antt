-- The entries that a wrapper round another keeps of its live scans, by ticket number.
use Rattle.std.specs.Prelude.{◌≡◌, ◌≢◌, ℕ, Option, None}

-- no entry changes
abbrev pub Stays : {X : Type 0} → (ℕ → Option X) → (ℕ → Option X) → Type 0
Stays old new = (q : ℕ) → new q ≡ old q

-- the entry of this number is gone, and all others are as before
pub record Forgets {X : Type 0} (old : ℕ → Option X) (number : ℕ) (new : ℕ → Option X) : Type 0 where
  pub gone : new number ≡ None
  pub others : (q : ℕ) → q ≢ number → new q ≡ old q
