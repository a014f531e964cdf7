use Rattle.std.proofs.Common.{◌≡◌, ◌&&◌, ◌∷◌, ℤ, true, map, length, FitsSigned, w64}
use Rattle.med_value.specs.Datum.{Tuple, Whole, datum}
use Rattle.fdw_api.specs.Scan.{restriction_form, meets_exact}
use Rattle.wrapper_parts.specs.Ranges.{has_key, only_keys}
use Rattle.wrapper_parts.proofs.tests_of_keys.range_of.Given as goal

abbrev pub invariant-loop-restriction : goal.invariant-loop-restriction
invariant-loop-restriction l = record {
  keys : only_keys (map datum l.params) (map restriction_form l.offered) l.answers ≡ true;
  same : (k : ℤ) (rest : Tuple) → FitsSigned w64 k
      → (has_key l.range k && meets_exact (map restriction_form l.offered) l.answers (map datum l.params) (Whole k ∷ rest))
      ≡ meets_exact (map restriction_form l.initial.offered) l.initial.answers (map datum l.params) (Whole k ∷ rest);
}

abbrev pub decreases-loop-restriction : goal.decreases-loop-restriction
decreases-loop-restriction l = length l.offered
