use Rattle.fed_hub.proofs.Turning.{places_free}
use Rattle.fed_hub.proofs.places.free_places.Goals as goal

pub returns-clause-free : goal.returns-clause-free
returns-clause-free g c = places_free _ _ c.loop.counter c.loop.places.items c.loop.invariant
