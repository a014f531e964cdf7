use Rattle.std.proofs.Common.{sym, subst}
use Rattle.med_world.specs.Engine.{TakesAs}
use Rattle.fed_words.specs.Places.{place_of}
use Rattle.fed_setup.proofs.FirstEngines.{place_added}
use Rattle.fed_setup.proofs.program.add_place.Goals as goal

pub add_source-requires-clause-takes : goal.add_source-requires-clause-takes
add_source-requires-clause-takes g c = subst (λ k. TakesAs k (g.W.Wrapper.meaning c.args.source)) (sym c.source_kind.ensures) c.requires.takes

pub returns-clause-added : goal.returns-clause-added
returns-clause-added g c = λ outside is_new. place_added outside _ _ (place_of c.args.place) _ _ c.source_kind.ensures is_new c.in-Ok.ensures.added c.in-Ok.ensures.world
