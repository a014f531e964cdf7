use Rattle.std.proofs.Common.{◌≡◌, map, length}
use Rattle.fdw_api.specs.Scan.{restriction_form}
use Rattle.wrapper_parts.specs.Scans.{sought}
use Rattle.wrapper_parts.proofs.sought.sought_in.Given as goal

abbrev pub invariant-loop-restriction : goal.invariant-loop-restriction
invariant-loop-restriction l = sought (map restriction_form l.offered) ≡ sought (map restriction_form l.initial.offered)

abbrev pub decreases-loop-restriction : goal.decreases-loop-restriction
decreases-loop-restriction l = length l.offered
