-- The elements of a list, and a name that stands nowhere in one.
use Rattle.std.proofs.Common.{◌≡◌, ℕ, ◌<◌, List, [], ◌∷◌, Some, slice_get, length, refl, zero, suc, arith}

-- an element within a list
pub within_some : {A : Type 0} (xs : List A) (i : ℕ) → i < length xs → (x : A) × (slice_get xs i ≡ Some x)
within_some [] i h = absurd (omega arith)
within_some (x ∷ xs) zero h = (x, refl)
within_some (x ∷ xs) (suc i) h = within_some xs i (omega arith)
