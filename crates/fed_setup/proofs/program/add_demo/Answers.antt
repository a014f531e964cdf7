use Rattle.std.proofs.Common.{◌∙◌, ℕ, Some, Result, refl, subst}
use Rattle.med_catalog.specs.declared.kind.SourceKind.TheVariants.{List as Lists}
use Rattle.med_world.specs.Engine.{state_of}
use Rattle.sql_meaning.specs.World.{with_source}
use Rattle.session_wire.specs.Worlds.{scene_of}
use Rattle.fed_setup.specs.declared.script.ScriptFault.{ScriptFault}
use Rattle.fed_setup.specs.Setup.{SetsUp}
use Rattle.fed_setup.proofs.FirstEngines.{list_takes, list_added, sets_up, told_ok, told_err}
use Rattle.fed_setup.proofs.program.add_demo.Goals as goal

-- a list takes what the catalogue lets pass
pub add_source-requires-clause-takes : goal.add_source-requires-clause-takes
add_source-requires-clause-takes g c = list_takes _ c.requires.demo c.lists_are_told_nothing.ensures

-- every line of the script is done
pub returns-clause-worlds : goal.returns-clause-worlds
returns-clause-worlds g c = told_ok c.args.name c.replay.result c.setup_told.result _ c.setup_told.ensures (λ count is w agrees.
    let meaning = g.W.Wrapper.meaning in
    let name = c.args.name.now in
    let owner = c.args.owner.now in
    let list = meaning c.args.list in
    let listed = with_source w name Lists (state_of (Some list)) in
    let led = c.replay.ensures.worlds listed (c.in-Ok.ensures.world w agrees) in
    let old = scene_of meaning c.args.engine.now w in
    let new = scene_of meaning c.replay.new.engine led.0 in
    let has = list_added _ _ w name list c.requires.demo c.in-Ok.ensures.added in
    let set = sets_up old (scene_of meaning c.add_source.new.self listed) new owner name c.as_bytes.result.now c.replay.result has (c.as_bytes.ensures.value ∙ c.in_ok-script.ensures) led.1 in
    (led.0, (count, subst (λ (r : Result ℕ ScriptFault). SetsUp old owner name r new) is set), led.2))

-- a line of it is refused
pub returns-clause-fault : goal.returns-clause-fault
returns-clause-fault g c = told_err c.args.name c.replay.result c.setup_told.result _ c.setup_told.ensures (λ w agrees. tt) (λ why is other w agrees.
    let meaning = g.W.Wrapper.meaning in
    let name = c.args.name.now in
    let owner = c.args.owner.now in
    let list = meaning c.args.list in
    let listed = with_source w name Lists (state_of (Some list)) in
    let led = c.replay.ensures.worlds listed (c.in-Ok.ensures.world w agrees) in
    let old = scene_of meaning c.args.engine.now w in
    let new = scene_of meaning c.replay.new.engine led.0 in
    let has = list_added _ _ w name list c.requires.demo c.in-Ok.ensures.added in
    let set = sets_up old (scene_of meaning c.add_source.new.self listed) new owner name c.as_bytes.result.now c.replay.result has (c.as_bytes.ensures.value ∙ c.in_ok-script.ensures) led.1 in
    (refl, (why, other, (new, subst (λ (r : Result ℕ ScriptFault). SetsUp old owner name r new) is set))))
