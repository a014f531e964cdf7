use Rattle.std.proofs.Common.{◌++◌, subst, append_assoc}
use Rattle.fed_hub.specs.Guests.{IsGone}
use Rattle.fed_hub.proofs.Parts.{own-append, said-append}
use Rattle.fed_hub.proofs.guest.Guest.turn.Goals as goal

pub returns-clause-said : goal.returns-clause-said
returns-clause-said g c =
    let step = c.in-Stays.ensures.said in
    let leave = c.leave.ensures.said in (
      step.0 ++ leave.0,
      own-append c.args.sid.number step.0 leave.0 step.1 leave.1,
      said-append g.H.Handler.step _ _ _ step.0 leave.0 step.2 leave.2,
      λ taken part h. subst (λ l. IsGone g.P.Peer.remaining g.P.Peer.contents c.args.sid.number taken l) (append_assoc part step.0 leave.0)
          (leave.3 taken (part ++ step.0) (c.send-is_well.ensures c.args.sid.number taken (part ++ step.0) (step.3 taken part h))),
    )
