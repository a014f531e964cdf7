use Rattle.std.proofs.Common.{◌≡◌, ◌+◌, ◌-◌, ◌^◌, min, sum, drop}
use Rattle.med_planner.specs.Premises.{widths_in}
use Rattle.med_exec.proofs.places.has_places.Given as goal

abbrev pub invariant-loop-entry : goal.invariant-loop-entry
invariant-loop-entry l = min (l.total + sum (widths_in (drop l.entry-index l.entries))) (2 ^ 64 - 1) ≡ min (sum (widths_in l.entries)) (2 ^ 64 - 1)
