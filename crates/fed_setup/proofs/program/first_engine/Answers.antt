use Rattle.std.proofs.Common.{ap, map}
use Rattle.sql_meaning.specs.World.{empty_world}
use Rattle.fed_words.specs.Places.{place_of}
use Rattle.fed_setup.specs.Setup.{list_asked}
use Rattle.fed_words.specs.Words.{places_asked}
use Rattle.fed_setup.proofs.FirstEngines.{nothing_there, is_empty, first_made, adds_as, places_fail_as, set_up_fails}
use Rattle.fed_setup.proofs.program.first_engine.Goals as goal

-- an engine that was just made has no source
pub add_asked_list-requires-clause-empty : goal.add_asked_list-requires-clause-empty
add_asked_list-requires-clause-empty g c = (nothing_there _ c.args.asked.now.owner.now c.in-Ok.ensures.sound c.in-Ok.ensures.empty).0

-- a source was not added
pub returns-in-Err-add_places-clause-refused : goal.returns-in-Err-add_places-clause-refused
returns-in-Err-add_places-clause-refused g c =
    places_fail_as _ c.args.asked.now _ _ _ (ap (map place_of) c.deref.ensures.value) c.in-Ok-add_asked_list.ensures.labels c.in-Err-add_places.ensures.fault

-- all were, and the list is set up
pub returns-in-Ok-set_up-clause-first : goal.returns-in-Ok-set_up-clause-first
returns-in-Ok-set_up-clause-first g c =
    let asked = c.args.asked.now in
    let owner = asked.owner.now in
    let nothing = nothing_there _ owner c.in-Ok.ensures.sound c.in-Ok.ensures.empty in
    let listed = c.in-Ok-add_asked_list.ensures.world (empty_world owner) c.in-Ok.ensures.empty in
    let added = (adds_as _ _ _ _ _ (ap (map place_of) c.deref.ensures.value) c.in-Ok-add_places.ensures.added).world listed.0 listed.2 in
    let set = c.in-Ok-set_up.ensures.done added.0 added.2 in
    (set.0, set.2, first_made _ owner (list_asked asked) (places_asked asked) _ _ _ _ (is_empty owner _ nothing.1) listed.1 added.1 set.1)

-- the list was not
pub returns-in-Err-set_up-clause-refused : goal.returns-in-Err-set_up-clause-refused
returns-in-Err-set_up-clause-refused g c =
    let asked = c.args.asked.now in
    let owner = asked.owner.now in
    let nothing = nothing_there _ owner c.in-Ok.ensures.sound c.in-Ok.ensures.empty in
    let listed = c.in-Ok-add_asked_list.ensures.world (empty_world owner) c.in-Ok.ensures.empty in
    let added = (adds_as _ _ _ _ _ (ap (map place_of) c.deref.ensures.value) c.in-Ok-add_places.ensures.added).world listed.0 listed.2 in
    set_up_fails _ asked _ _ _ _ (is_empty owner _ nothing.1) listed.1 added.1 (c.in-Err-set_up.ensures.fault added.0 added.2)
