use Rattle.std.proofs.Common.{◌++◌, sym, subst, ◌∙◌}
use Rattle.fed_hub.specs.Places.{Stands}
use Rattle.fed_hub.proofs.Standing.{turned_stays, turned_goes}
use Rattle.fed_hub.proofs.places.turn_at.Goals as goal

pub returns-in-Stays-clause-said : goal.returns-in-Stays-clause-said
returns-in-Stays-clause-said g c =
    let said = c.in-Stays.ensures.said in (
      said.0,
      said.1,
      said.2,
      turned_stays _ _ c.args.sid.number c.args.place.now c.in-Some.guest c.turn.new.self said.0
          (sym c.take.ensures.value ∙ c.in-Some.is) said.3,
    )

pub returns-in-Goes-clause-said : goal.returns-in-Goes-clause-said
returns-in-Goes-clause-said g c =
    let said = c.in-Goes.ensures.said in (
      said.0,
      said.1,
      said.2,
      λ part h. subst (λ o. Stands g.P.Peer.remaining g.P.Peer.contents c.args.sid.number o (part ++ said.0)) (sym c.take.ensures.after)
          (turned_goes _ _ c.args.sid.number c.args.place.now c.in-Some.guest said.0 (sym c.take.ensures.value
          ∙ c.in-Some.is) said.3 part h),
    )
