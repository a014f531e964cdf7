use Rattle.std.proofs.Common.{[], ◌∷◌, refl, sym, ◌∙◌}
use Rattle.fed_hub.specs.Said.{bye_of}
use Rattle.fed_hub.proofs.Standing.{left_open, left_closed}
use Rattle.fed_hub.proofs.guest.Guest.leave.Goals as goal

pub returns-in-Some-clause-said : goal.returns-in-Some-clause-said
returns-in-Some-clause-said g c =
    let said = c.say.ensures.said in (
      bye_of c.args.sid.number said.0 ∷ [],
      (refl, tt),
      said.1,
      left_open _ _ c.args.sid.number c.args.self.now.link c.args.self.now.farewell c.in-Some.farewell said.0 (sym c.take.ensures.value
          ∙ c.in-Some.is),
    )

pub returns-in-None-clause-said : goal.returns-in-None-clause-said
returns-in-None-clause-said g c = (
  [],
  tt,
  refl,
  left_closed _ _ c.args.sid.number c.args.self.now.link c.args.self.now.farewell
      (sym c.take.ensures.value ∙ c.in-None.is),
)
