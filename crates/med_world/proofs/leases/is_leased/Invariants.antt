use Rattle.std.proofs.Common.{◌≡◌, drop}
use Rattle.med_world.specs.Open.{seats_shown, any_leases}
use Rattle.med_world.proofs.leases.is_leased.Given as goal

abbrev pub invariant-loop-seat : goal.invariant-loop-seat
invariant-loop-seat l = any_leases (seats_shown l.seats) l.table ≡ any_leases (seats_shown (drop l.seat-index l.seats)) l.table
