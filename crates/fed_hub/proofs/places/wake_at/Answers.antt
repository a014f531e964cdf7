use Rattle.std.proofs.Common.{◌≡◌, ◌<◌, ◌++◌, suc, None, Some, [], length, refl, subst, sym, ◌∙◌, arith}
use Rattle.std.proofs.lemmas.Option.{slice_get_read}
use Rattle.fed_hub.specs.Guests.{IsHere}
use Rattle.fed_hub.specs.Places.{Stands}
use Rattle.fed_hub.proofs.Standing.{stand_in, turned_stays}
use Rattle.fed_hub.proofs.Turning.{none_more}
use Rattle.fed_hub.proofs.places.wake_at.Goals as goal

pub returns-in-Some-clause-stand : goal.returns-in-Some-clause-stand
returns-in-Some-clause-stand g c = λ said all.
    let items = c.args.places.now.items in
    let within : c.args.at < length items = omega (arith, c.if-at-len.true, c.args.places.now.ok.0) in
    stand_in _ _ items c.args.at c.index_mut-place.result.now (Some c.wake.new.self) said (slice_get_read items
    (length items) c.args.at c.index_mut-place.result.now refl within c.index_mut-place.ensures.value)
    (turned_stays _ _ (suc c.args.at) c.index_mut-place.result.now c.in-Some.guest c.wake.new.self [] (sym c.take.ensures.value
    ∙ c.in-Some.is)
    (λ taken part h. none_more (λ l. IsHere g.P.Peer.remaining g.P.Peer.contents (suc c.args.at) taken c.wake.new.self l) part
    (c.wake.ensures (suc c.args.at) taken part h))) all

pub returns-in-None-clause-stand : goal.returns-in-None-clause-stand
returns-in-None-clause-stand g c = λ said all.
    let items = c.args.places.now.items in
    let within : c.args.at < length items = omega (arith, c.if-at-len.true, c.args.places.now.ok.0) in
    let same : c.index_mut-place.result.now ≡ c.take.new.self = (sym c.take.ensures.value ∙ c.in-None.is) ∙ sym c.take.ensures.after in
    stand_in _ _ items c.args.at c.index_mut-place.result.now c.take.new.self said (slice_get_read items
    (length items) c.args.at c.index_mut-place.result.now refl within c.index_mut-place.ensures.value)
    (λ part h. none_more (λ l. Stands g.P.Peer.remaining g.P.Peer.contents (suc c.args.at) c.take.new.self l) part
    (subst (λ o. Stands g.P.Peer.remaining g.P.Peer.contents (suc c.args.at) o part) same h)) all
