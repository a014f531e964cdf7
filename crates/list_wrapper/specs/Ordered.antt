-- That two cells are in order, as a fact.
use Rattle.std.specs.Prelude.{◌≤ℤ◌, FitsSigned}
use Rattle.std.specs.Int.{w64}
use Rattle.std.proofs.Props.{props}
use Rattle.med_value.specs.Datum.{Datum, NoValue, Whole, Chars, Logic}

-- two cells are integers of 64 bits, and the second is not less than the first
abbrev pub AreOrdered : Datum → Datum → Type 0
AreOrdered NoValue second = ⊥
AreOrdered (Whole low) NoValue = ⊥
AreOrdered (Whole low) (Whole high) = FitsSigned w64 low × (low ≤ℤ high)
AreOrdered (Whole low) (Chars t) = ⊥
AreOrdered (Whole low) (Logic b) = ⊥
AreOrdered (Chars t) second = ⊥
AreOrdered (Logic b) second = ⊥

-- which is so in one way
pub ordered_once : (first second : Datum) → IsProp (AreOrdered first second)
ordered_once NoValue second = λ x y. absurd x
ordered_once (Whole low) NoValue = λ x y. absurd x
ordered_once (Whole low) (Whole high) = Prim.hlevel props
ordered_once (Whole low) (Chars t) = λ x y. absurd x
ordered_once (Whole low) (Logic b) = λ x y. absurd x
ordered_once (Chars t) second = λ x y. absurd x
ordered_once (Logic b) second = λ x y. absurd x
