use Rattle.std.proofs.Common.{◌≡◌, ◌≤◌, ◌-◌, None, replicate, vec_len}
use Rattle.med_value.specs.Limits.{session_count}
use Rattle.med_world.specs.Open.{seats_shown}
use Rattle.med_session.proofs.places.closed_sessions.Given as goal

abbrev pub invariant-loop-seats : goal.invariant-loop-seats
invariant-loop-seats l = record {
  closed : seats_shown l.seats.items ≡ replicate (vec_len l.seats) None;
  within : vec_len l.seats ≤ session_count;
}

abbrev pub decreases-loop-seats : goal.decreases-loop-seats
decreases-loop-seats l = session_count - vec_len l.seats
