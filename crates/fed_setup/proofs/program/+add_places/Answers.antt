use Rattle.std.proofs.Common.{ap, map}
use Rattle.fed_words.specs.Places.{place_of}
use Rattle.fed_setup.proofs.FirstEngines.{adds_more}
use Rattle.fed_setup.proofs.program.+add_places.Goals as goal

-- the first was added, and then the others
pub returns-clause-added : goal.returns-clause-added
returns-clause-added g t c = adds_more _ c.add_places.result _ _ _ (place_of c.in-Some.place.now) _ _ (ap (map place_of) c.in-Some.ensures.cases.0) c.in-Ok.ensures.added c.add_places.ensures.added
