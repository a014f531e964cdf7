use Rattle.std.proofs.Common.{◌≡◌, ◌++◌, ◌-◌, ℕ, List, vec_len}
use Rattle.std.specs.Io.KnownBytes.{Appends}
use Rattle.fed_hub.specs.Boxes.{unsent_in}
use Rattle.fed_hub.proofs.outbox.Outbox.send.Given as goal

abbrev pub invariant-loop-self : goal.invariant-loop-self
invariant-loop-self g l =
    ((front : List ℕ) × (unsent_in l.fn.self ≡ front ++ unsent_in l.self) × Appends (g.P.Peer.contents l.fn.peer)
    (g.P.Peer.contents l.peer) front)
    × (g.P.Peer.remaining l.peer ≡ g.P.Peer.remaining l.fn.peer)

abbrev pub decreases-loop-self : goal.decreases-loop-self
decreases-loop-self g l = vec_len l.self.bytes - l.self.sent
