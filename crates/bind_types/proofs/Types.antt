-- Operands that are compared, two at a time.
use Rattle.std.proofs.Common.{◌≡◌, ℕ, true, false, List, [], ◌∷◌, Option, Some, None, refl, sym, ap, ◌∙◌}
use Rattle.med_value.specs.declared.value.ColType.{ColType}
use Rattle.med_value.specs.declared.value.ColType.TheVariants.{Int, Text, Bool as Truth}
use Rattle.med_value.specs.declared.cause.Cause.{Cause}
use Rattle.med_value.specs.declared.cause.Cause.TheVariants.{UndefinedFunction}
use Rattle.bind_types.specs.Typing.{same_type, comparing}

pub meets_same : (t u : ColType) (ts : List (Option ColType)) → same_type t u ≡ true → comparing (Some t ∷ Some u ∷ ts) ≡ comparing (Some t ∷ ts)
meets_same Int Int ts h = refl
meets_same Int Text ts h = absurd cc
meets_same Int Truth ts h = absurd cc
meets_same Text Int ts h = absurd cc
meets_same Text Text ts h = refl
meets_same Text Truth ts h = absurd cc
meets_same Truth Int ts h = absurd cc
meets_same Truth Text ts h = absurd cc
meets_same Truth Truth ts h = refl

pub meets_apart : (t u : ColType) (ts : List (Option ColType)) → same_type t u ≡ false → comparing (Some t ∷ Some u ∷ ts) ≡ UndefinedFunction ∷ []
meets_apart Int Int ts h = absurd cc
meets_apart Int Text ts h = refl
meets_apart Int Truth ts h = refl
meets_apart Text Int ts h = refl
meets_apart Text Text ts h = absurd cc
meets_apart Text Truth ts h = refl
meets_apart Truth Int ts h = refl
meets_apart Truth Text ts h = refl
meets_apart Truth Truth ts h = absurd cc

-- one operand has its own type
pub comparing_one : (m : Option ColType) → comparing (m ∷ []) ≡ []
comparing_one None = refl
comparing_one (Some Int) = refl
comparing_one (Some Text) = refl
comparing_one (Some Truth) = refl

-- one operand further in a list
pub list_step : (xs : List Cause) (all one t : Option ColType) (ts : List (Option ColType)) (ys : List Cause) → xs ≡ comparing (all ∷ t ∷ ts) → one ≡ t → comparing (all ∷ one ∷ ts) ≡ ys → xs ≡ ys
list_step xs all one t ts ys e h k = e ∙ ap (λ u. comparing (all ∷ u ∷ ts)) (sym h) ∙ k
