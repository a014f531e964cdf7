use Rattle.std.proofs.Common.{vec_len, sym, ap, subst, ◌∙◌}
use Rattle.fed_hub.specs.Places.{AllStand}
use Rattle.fed_hub.proofs.hub.wake_ready.Goals.{in-Some-Door, in-Some-Place}
use Rattle.fed_hub.proofs.hub.wake_ready.Goals as goal

pub loop-preserved : goal.loop-preserved
loop-preserved g c =
    let inv = c.loop.invariant in
    elim c.match-next_ready-2.branch [
      | in-Some-Door w ↦ record {
        stand = λ said all. subst (λ v. AllStand g.C.Peer.Peer.remaining g.C.Peer.Peer.contents v.items said) (sym w.places-is)
            (inv.stand said all);
        count = ap (λ v. vec_len v) w.places-is ∙ inv.count;
      }
      | in-Some-Place w ↦ record {
        stand = λ said all. subst (λ v. AllStand g.C.Peer.Peer.remaining g.C.Peer.Peer.contents v.items said) (sym w.places-is)
            (w.wake_at.ensures.stand said (inv.stand said all));
        count = ap (λ v. vec_len v) w.places-is ∙ w.wake_at.ensures.count ∙ inv.count;
      }
    ]
