use Rattle.std.proofs.Common.{[], refl}
use Rattle.fed_hub.specs.Guests.{IsParting, HasParted}
use Rattle.fed_hub.proofs.Turning.{none_more}
use Rattle.fed_hub.proofs.link.Link.turn.Goals as goal

pub returns-in-PartsNow-clause-said : goal.returns-in-PartsNow-clause-said
returns-in-PartsNow-clause-said g c = (
  [],
  tt,
  refl,
  λ taken part h. none_more
      (λ l. IsParting g.P.Peer.remaining g.P.Peer.contents taken c.hear.new.self l) part (c.in-PartsNow.ensures taken part h),
)

pub returns-in-Breaks-clause-said : goal.returns-in-Breaks-clause-said
returns-in-Breaks-clause-said g c = (
  [],
  tt,
  refl,
  λ taken part h. none_more
      (λ l. HasParted g.P.Peer.remaining g.P.Peer.contents taken c.hear.new.self l) part (c.in-Breaks.ensures taken part h),
)
