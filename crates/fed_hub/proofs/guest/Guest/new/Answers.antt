use Rattle.std.proofs.Common.{refl}
use Rattle.fed_hub.proofs.Links.{new_open}
use Rattle.fed_hub.proofs.guest.Guest.new.Goals as goal

pub returns : goal.returns
returns g c = λ sid. new_open _ _ _ c.in_ok-inbox.ensures c.new-2.ensures refl refl
