use Rattle.std.proofs.Common.{[], ◌∷◌, ◌++◌, refl, sym, ◌∙◌}
use Rattle.fed_hub.specs.Said.{bye_of}
use Rattle.fed_hub.proofs.Parts.{own-append, said-append}
use Rattle.fed_hub.proofs.Links.{at_some}
use Rattle.fed_hub.proofs.Turning.{leaves, breaks, stays_closed}
use Rattle.fed_hub.proofs.guest.Guest.step.Goals as goal

pub returns-in_default-clause-said : goal.returns-in_default-clause-said
returns-in_default-clause-said g c = (
  [],
  tt,
  refl,
  λ taken part h.
      stays_closed _ _ c.args.sid.number taken c.args.self.now.link c.args.self.now.farewell c.take.new.self part (sym c.take.ensures.value
      ∙ c.in_default.is) c.take.ensures.after h,
)

pub returns-in-GoesOn-clause-said : goal.returns-in-GoesOn-clause-said
returns-in-GoesOn-clause-said g c =
    let said = c.in-GoesOn.ensures.said in (
      said.0,
      said.1,
      said.2,
      λ taken part h. said.3 taken part
          (at_some _ _ c.args.sid.number taken c.args.self.now.link c.args.self.now.farewell c.in-Some.farewell part
          (sym c.take.ensures.value ∙ c.in-Some.is) h),
    )

pub returns-in-PartsNow-clause-said : goal.returns-in-PartsNow-clause-said
returns-in-PartsNow-clause-said g c =
    let said = c.in-PartsNow.ensures.said in
    let bye = c.say.ensures.said in (
      said.0 ++ bye_of c.args.sid.number bye.0 ∷ [],
      own-append c.args.sid.number said.0 (bye_of c.args.sid.number bye.0 ∷ []) said.1 (refl, tt),
      said-append g.H.Handler.step _ _ _ said.0 (bye_of c.args.sid.number bye.0 ∷ []) said.2 bye.1,
      λ taken part h. leaves _ _ c.args.sid.number taken c.turn.new.self c.take.new.self bye.0 part said.0 c.take.ensures.after
          (said.3 taken part (at_some _ _ c.args.sid.number taken c.args.self.now.link c.args.self.now.farewell c.in-Some.farewell part
          (sym c.take.ensures.value ∙ c.in-Some.is) h)),
    )

pub returns-in-Breaks-clause-said : goal.returns-in-Breaks-clause-said
returns-in-Breaks-clause-said g c =
    let said = c.in-Breaks.ensures.said in
    let bye = c.say-in-Breaks.ensures.said in (
      said.0 ++ bye_of c.args.sid.number bye.0 ∷ [],
      own-append c.args.sid.number said.0 (bye_of c.args.sid.number bye.0 ∷ []) said.1 (refl, tt),
      said-append g.H.Handler.step _ _ _ said.0 (bye_of c.args.sid.number bye.0 ∷ []) said.2 bye.1,
      λ taken part h. breaks _ _ c.args.sid.number taken c.turn.new.self bye.0 part said.0
          (said.3 taken part (at_some _ _ c.args.sid.number taken c.args.self.now.link c.args.self.now.farewell c.in-Some.farewell part
          (sym c.take.ensures.value ∙ c.in-Some.is) h)),
    )
