use Rattle.std.proofs.Common.{refl}
use Rattle.fed_hub.proofs.Links.{sent_at}
use Rattle.fed_hub.proofs.guest.Guest.send.Goals as goal

pub returns-in-Ok : goal.returns-in-Ok
returns-in-Ok g c = λ sid taken part h.
    let wrote = c.send.ensures.wrote in
    sent_at _ _ sid taken c.args.self.now.link _ c.args.self.now.farewell wrote.0 part wrote.1 wrote.2 c.send.ensures.kept refl refl refl h

pub returns-in-Err-Later : goal.returns-in-Err-Later
returns-in-Err-Later g c = λ sid taken part h.
    let wrote = c.send.ensures.wrote in
    sent_at _ _ sid taken c.args.self.now.link _ c.args.self.now.farewell wrote.0 part wrote.1 wrote.2 c.send.ensures.kept refl refl refl h

pub returns-in-Err-Failed : goal.returns-in-Err-Failed
returns-in-Err-Failed g c = λ sid taken part h.
    let wrote = c.send.ensures.wrote in
    sent_at _ _ sid taken c.args.self.now.link _ c.args.self.now.farewell wrote.0 part wrote.1 wrote.2 c.send.ensures.kept refl refl refl h
