use Rattle.std.proofs.Common.{List, sym, subst}
use Rattle.fed_hub.specs.Said.{Said}
use Rattle.fed_hub.specs.Places.{AllStand}
use Rattle.fed_hub.proofs.Standing.{stays, then_more}
use Rattle.fed_hub.proofs.hub.serve_places.Goals.{then-is_door_open, else-is_door_open}
use Rattle.fed_hub.proofs.hub.serve_places.Goals as goal

pub loop-init : goal.loop-init
loop-init g c = record { said = stays g.H.Handler.step _ _ _ _ _ (λ said all. all); count = c.requires.count; sound = c.requires.sound }

pub loop-preserved : goal.loop-preserved
loop-preserved g c =
    let remaining = g.C.Peer.Peer.remaining in
    let contents = g.C.Peer.Peer.contents in
    let taken : (said : List Said) → AllStand remaining contents c.wake_ready.new.places.items said
    → AllStand remaining contents c.if-is_door_open.places.items said =
    elim c.if-is_door_open.branch [
      | then-is_door_open w ↦ λ said all. subst (λ v. AllStand remaining contents v.items said) (sym w.places-is)
          (w.take_some-is_door_open.ensures.stand said all)
      | else-is_door_open w ↦ λ said all. subst (λ v. AllStand remaining contents v.items said) (sym w.places-is) all
    ] in
    record {
      said = then_more g.H.Handler.step _ _ _ _ _ _ _ _ c.loop.invariant.said
          (then_more g.H.Handler.step _ _ _ _ _ _ _ _ (stays g.H.Handler.step _ _ c.loop.handler _ _ (λ said all. taken said
          (c.wake_ready.ensures.stand said all))) c.turn_each-is_busy.ensures.said);
      count = c.turn_each-is_busy.ensures.count;
      sound = c.turn_each-is_busy.ensures.sound;
    }
