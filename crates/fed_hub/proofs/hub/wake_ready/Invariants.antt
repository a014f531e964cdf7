use Rattle.std.proofs.Common.{◌≡◌, List, vec_len}
use Rattle.fed_hub.specs.Said.{Said}
use Rattle.fed_hub.specs.Places.{AllStand}
use Rattle.fed_hub.proofs.hub.wake_ready.Given as goal

abbrev pub invariant-loop : goal.invariant-loop
invariant-loop g l = record {
  stand : (said : List Said) → AllStand g.C.Peer.Peer.remaining g.C.Peer.Peer.contents l.fn.places.items said
      → AllStand g.C.Peer.Peer.remaining g.C.Peer.Peer.contents l.places.items said;
  count : vec_len l.places ≡ vec_len l.fn.places;
}
