use Rattle.std.proofs.Common.{[], refl, ap}
use Rattle.session_wire.specs.Lines.{closed}
use Rattle.fed_hub.specs.Guests.{IsOpen, IsParting, HasParted, Turns}
use Rattle.fed_hub.specs.declared.link.Link.{Link}
use Rattle.fed_hub.proofs.Links.{broke, at_end}
use Rattle.fed_hub.proofs.Turning.{none_more, same_open, closes, open_along, open_with}
use Rattle.fed_hub.proofs.link.Link.answer.Goals as goal

pub returns-then-len-ge-MOST_UNSENT-clause-said : goal.returns-then-len-ge-MOST_UNSENT-clause-said
returns-then-len-ge-MOST_UNSENT-clause-said g c = (
  [],
  tt,
  refl,
  λ taken part h. none_more
      (λ l. IsOpen g.P.Peer.remaining g.P.Peer.contents taken c.args.self.now l) part h,
)

pub returns-then-self-clause-said : goal.returns-then-self-clause-said
returns-then-self-clause-said g c = (
  [],
  tt,
  refl,
  λ taken part h.
      none_more (λ l. IsParting g.P.Peer.remaining g.P.Peer.contents taken c.args.self.now l) part
      (at_end _ _ taken c.args.self.now part c.if-self.true (c.has_some.ensures c.if-not-has_some.true) h),
)

pub returns-else-self-clause-said : goal.returns-else-self-clause-said
returns-else-self-clause-said g c = (
  [],
  tt,
  refl,
  λ taken part h. none_more
      (λ l. IsOpen g.P.Peer.remaining g.P.Peer.contents taken c.args.self.now l) part h,
)

pub returns-in-Ok-Closing-clause-said : goal.returns-in-Ok-Closing-clause-said
returns-in-Ok-Closing-clause-said g c =
    let found = rw c.in-Ok-Closing.field-0-is at c.in-Ok-Closing.ensures in (
      [],
      tt,
      refl,
      λ taken part h.
          let asked : Link _ = record c.args.self.now { inbox = c.take.new.self } in
          let all = open_with _ _ taken c.args.self.now asked closed part refl refl refl refl
          (open_along _ _ taken c.args.self.now _ closed part found h) in
          none_more (λ l. Turns g.P.Peer.remaining g.P.Peer.contents c.close.result taken c.close.new.self l) part
          (closes _ _ c.close.result taken asked c.close.new.self part c.close.ensures.told (ap (λ
          (k : Link _). k.peer) c.close.ensures.same) c.close.ensures.parts all),
    )

pub returns-in-Err-clause-said : goal.returns-in-Err-clause-said
returns-in-Err-clause-said g c = (
  [],
  tt,
  refl,
  λ taken part h.
      none_more (λ l. HasParted g.P.Peer.remaining g.P.Peer.contents taken (record c.args.self.now { inbox = c.take.new.self }) l) part
      (broke _ _ taken c.args.self.now _ _ part refl h),
)

pub returns-in-Ok-Nothing-clause-said : goal.returns-in-Ok-Nothing-clause-said
returns-in-Ok-Nothing-clause-said g c =
    let found = rw c.in-Ok-Nothing.field-0-is at c.in-Ok-Nothing.ensures in (
      [],
      tt,
      refl,
      λ taken part h.
          none_more (λ l. IsOpen g.P.Peer.remaining g.P.Peer.contents taken (record c.args.self.now { inbox = c.take.new.self }) l) part
          (same_open _ _ taken c.args.self.now _ part refl refl found.1 refl refl h),
    )
