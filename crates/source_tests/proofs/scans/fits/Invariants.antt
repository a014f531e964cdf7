use Rattle.std.proofs.Common.{◌≡◌, map, length}
use Rattle.med_value.specs.Datum.{datum}
use Rattle.fdw_api.specs.Scan.{restriction_form, params_fit}
use Rattle.source_tests.proofs.scans.fits.Given as goal

abbrev pub invariant-loop-restriction : goal.invariant-loop-restriction
invariant-loop-restriction l =
    params_fit l.kinds (map restriction_form l.offered) (map datum l.params) ≡ params_fit l.kinds (map restriction_form l.initial.offered) (map datum l.params)

abbrev pub decreases-loop-restriction : goal.decreases-loop-restriction
decreases-loop-restriction l = length l.offered
