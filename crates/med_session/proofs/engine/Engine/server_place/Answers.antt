use Rattle.med_catalog.specs.View.{server_of}
use Rattle.med_session.specs.Shows.{shown}
use Rattle.med_session.proofs.Tables.{none_follows, source_there}
use Rattle.med_session.proofs.engine.Engine.server_place.Goals as goal

pub returns-in-Some-clause-none : goal.returns-in-Some-clause-none
returns-in-Some-clause-none g c =
    let e = shown g.W.Wrapper.meaning c.args.self.now in
    none_follows c.place_of_source.result (rw (c.deref.ensures.value, c.as_str.ensures.value) at c.place_of_source.ensures.none)
    (λ none. absurd (none (source_there e c.args.server.now (server_of c.args.server.now c.in-Some.found.now) c.requires c.in-Some.ensures)))
