use Rattle.std.proofs.Common.{◌≡◌, ◌++◌, ◌-◌, length, take, drop, subst, ◌∙◌}
use Rattle.std.specs.Io.KnownBytes.{Appends}
use Rattle.std.proofs.KnownBytes.{Appends-trans}
use Rattle.std.proofs.lemmas.List.{take_rest}
use Rattle.fed_hub.proofs.Links.{sent_more}
use Rattle.fed_hub.proofs.outbox.Outbox.send.Goals as goal

pub loop-self-preserved : goal.loop-self-preserved
loop-self-preserved g c =
    let bytes = c.loop-self.self.bytes.items in
    let sent = c.loop-self.self.sent in
    let inv = c.loop-self.invariant in
    let wrote : Appends (g.P.Peer.contents c.loop-self.peer) (g.P.Peer.contents c.write_now.new.self) (take c.in-Ok.count
    (drop sent bytes)) =
    subst (λ bs. Appends (g.P.Peer.contents c.loop-self.peer) (g.P.Peer.contents c.write_now.new.self) (take c.in-Ok.count bs))
    (take_rest bytes sent)
    (subst (λ bs. Appends (g.P.Peer.contents c.loop-self.peer) (g.P.Peer.contents c.write_now.new.self) (take c.in-Ok.count (take
    (length bs - sent) (drop sent bs)))) c.deref.ensures.value c.in-Ok.ensures.bytes) in
    ((_, sent_more _ inv.0.0 bytes sent c.in-Ok.count inv.0.1, Appends-trans _ _ _ inv.0.0 _ inv.0.2 wrote), c.in-Ok.ensures.kept ∙ inv.1)
