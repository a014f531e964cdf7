use Rattle.std.proofs.Common.{◌≡◌, ◌∷◌, ℤ, true, map, length, FitsSigned, w64}
use Rattle.med_value.specs.Datum.{Tuple, Whole, datum}
use Rattle.fdw_api.specs.Scan.{restriction_form, meets_exact}
use Rattle.wrapper_parts.specs.Ranges.{has_key}
use Rattle.wrapper_parts.proofs.rising.range_around.Given as goal

abbrev pub invariant-loop-restriction : goal.invariant-loop-restriction
invariant-loop-restriction l = (k : ℤ) (rest : Tuple) → FitsSigned w64 k
    → meets_exact (map restriction_form l.initial.offered) l.initial.answers (map datum l.params) (Whole k ∷ rest) ≡ true
    → (has_key l.range k ≡ true) × (meets_exact (map restriction_form l.offered) l.answers (map datum l.params) (Whole k ∷ rest) ≡ true)

abbrev pub decreases-loop-restriction : goal.decreases-loop-restriction
decreases-loop-restriction l = length l.offered
