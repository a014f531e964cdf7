use Rattle.std.proofs.Common.{◌≡◌, ◌<◌, suc, length, refl, arith}
use Rattle.fed_hub.proofs.Standing.{stays}
use Rattle.fed_hub.proofs.Turning.{at_sid}
use Rattle.std.proofs.lemmas.Option.{slice_get_read}
use Rattle.fed_hub.proofs.places.turn_each.Goals as goal

pub loop-at-init : goal.loop-at-init
loop-at-init g c = record { said = stays g.H.Handler.step _ _ _ _ _ (λ said all. all); count = c.requires.count; sound = c.requires.sound }

pub loop-at-preserved : goal.loop-at-preserved
loop-at-preserved g c =
    let inv = c.loop-at.invariant in
    let said = c.turn_at.ensures.said in
    let here : c.in-Some.sid.number ≡ suc c.loop-at.at = omega (arith, c.in-Some.ensures.number) in
    let within : c.loop-at.at < length c.loop-at.places.items = omega (
      arith,
      here,
      c.in-Some.sid.in_range.1,
      inv.count,
      c.loop-at.places.ok.0,
    ) in
    record {
      said = at_sid g.H.Handler.step _ _ _ _ _ _ c.loop-at.places.items c.in-Some.sid.number c.loop-at.at c.index_mut-place.result.now
          c.turn_at.new.place said.0 here inv.said
          (slice_get_read c.loop-at.places.items
          (length c.loop-at.places.items) c.loop-at.at c.index_mut-place.result.now refl within c.index_mut-place.ensures.value) said.1
          said.2 said.3;
      count = inv.count;
      sound = c.turn_at.ensures.sound;
    }
