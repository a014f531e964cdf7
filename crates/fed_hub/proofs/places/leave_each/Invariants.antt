use Rattle.std.proofs.Common.{◌≡◌, ◌<◌, ℕ, None, Some, slice_get, vec_len}
use Rattle.med_value.specs.Limits.{session_count}
use Rattle.fed_hub.specs.Places.{Advances}
use Rattle.fed_hub.proofs.places.leave_each.Given as goal

abbrev pub invariant-loop-at : goal.invariant-loop-at
invariant-loop-at g l = record {
  said : Advances g.H.Handler.step g.P.Peer.remaining g.P.Peer.contents l.fn.handler l.fn.places.items l.handler l.places.items;
  free : (k : ℕ) → k < l.at → slice_get l.places.items k ≡ Some None;
  count : vec_len l.places ≡ session_count;
  sound : g.H.Handler.sound l.handler;
}
