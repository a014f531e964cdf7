use Rattle.std.proofs.Common.{◌≡◌, ◌<◌, ◌++◌, suc, None, Some, [], length, not, refl, ap, subst, ◌∙◌, arith}
use Rattle.std.proofs.lemmas.Option.{slice_get_read}
use Rattle.fed_hub.specs.Places.{Stands}
use Rattle.fed_hub.proofs.Standing.{stand_in, new_stands}
use Rattle.fed_hub.proofs.Turning.{none_of}
use Rattle.fed_hub.proofs.places.put_at.Goals as goal

pub returns-in-Ok-clause-stand : goal.returns-in-Ok-clause-stand
returns-in-Ok-clause-stand g c = λ said all.
    let items = c.args.places.now.items in
    let within : c.args.at < length items = omega (arith, c.if-at-len.true, c.args.places.now.ok.0) in
    let none : c.index.result.now ≡ None = none_of c.index.result.now (c.is_none.ensures ∙ ap not c.if-is_none.true) in
    stand_in _ _ items c.args.at c.index.result.now (Some c.in-Ok.guest) said (slice_get_read items
    (length items) c.args.at c.index.result.now refl within c.index.ensures)
    (λ part h. new_stands _ _ (suc c.args.at) c.args.peer c.in-Ok.guest (c.in-Ok.ensures (suc c.args.at)) part (subst
    (λ o. Stands g.P.Peer.remaining g.P.Peer.contents (suc c.args.at) o part) none h)) all
