use Rattle.fed_setup.specs.Engines.{EngineAnswers, EngineCloses}
use Rattle.fed_setup.proofs.Follows.{in_worlds, replay_rises, no_text, ran}
use Rattle.fed_setup.proofs.script.replay.Goals as goal

pub returns-in_default-clause-replays : goal.returns-in_default-clause-replays
returns-in_default-clause-replays g c = no_text (EngineAnswers g.W.Wrapper.meaning) (EngineCloses g.W.Wrapper.meaning) c.args.engine.now c.args.owner.now c.args.script.now c.in_default.ensures.cases.0

pub returns-in_default-clause-worlds : goal.returns-in_default-clause-worlds
returns-in_default-clause-worlds g c =
    in_worlds g.W.Wrapper.meaning c.args.engine.now c.args.engine.now c.args.owner.now c.args.script.now _ (returns-in_default-clause-replays g c)

pub returns-in_default-clause-rises : goal.returns-in_default-clause-rises
returns-in_default-clause-rises g c =
    replay_rises g.W.Wrapper.meaning c.args.engine.now c.args.engine.now c.args.owner.now c.args.script.now _ (returns-in_default-clause-replays g c)

pub returns-clause-replays : goal.returns-clause-replays
returns-clause-replays g c =
    ran (EngineAnswers g.W.Wrapper.meaning) (EngineCloses g.W.Wrapper.meaning) c.args.engine.now c.args.owner.now c.args.script.now c.in-Ok.text.now c.run-ran.result c.run-ran.new.engine c.close_session.new.self
    c.in-Ok.ensures.cases.1 c.in-Ok.ensures.cases.0 c.run-ran.ensures.runs c.close_session.ensures.closes

pub returns-clause-worlds : goal.returns-clause-worlds
returns-clause-worlds g c =
    in_worlds g.W.Wrapper.meaning c.args.engine.now c.close_session.new.self c.args.owner.now c.args.script.now c.run-ran.result (returns-clause-replays g c)

pub returns-clause-rises : goal.returns-clause-rises
returns-clause-rises g c =
    replay_rises g.W.Wrapper.meaning c.args.engine.now c.close_session.new.self c.args.owner.now c.args.script.now c.run-ran.result (returns-clause-replays g c)
