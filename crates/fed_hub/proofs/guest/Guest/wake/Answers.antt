use Rattle.fed_hub.proofs.Links.{flags_at}
use Rattle.fed_hub.proofs.guest.Guest.wake.Goals as goal

pub returns : goal.returns
returns g c = λ sid taken part h. flags_at _ _ sid taken c.args.self.now.link _ _ _ c.args.self.now.farewell part h
