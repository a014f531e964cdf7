use Rattle.std.proofs.Common.{◌≡◌, None, replicate, take, vec_len}
use Rattle.med_exec.specs.Prelude.{ServesRun, states}
use Rattle.med_value.specs.Limits.{session_count}
use Rattle.med_world.specs.Open.{seats_shown, held_by, AreHeld, AreOwn, all_cursors}
use Rattle.med_session.proofs.places.close_seats.Given as goal

abbrev pub invariant-loop-place : goal.invariant-loop-place
invariant-loop-place g l = record {
  long : vec_len l.seats ≡ session_count;
  closed : seats_shown (take l.place l.seats.items) ≡ replicate l.place None;
  held : AreHeld (all_cursors (seats_shown l.seats.items)) (states g.W.Wrapper.meaning l.slots.items);
  own : AreOwn (all_cursors (seats_shown l.seats.items));
  served : ServesRun (held_by (all_cursors (seats_shown l.fn.seats.items))) (held_by (all_cursors (seats_shown l.seats.items))) (states g.W.Wrapper.meaning l.fn.slots.items) (states g.W.Wrapper.meaning l.slots.items);
}
