use Rattle.fed_setup.proofs.Begun.{replays_script}
use Rattle.fed_setup.proofs.init.replay_init.Goals as goal

-- the script is there
pub returns-in-Some-clause-worlds : goal.returns-in-Some-clause-worlds
returns-in-Some-clause-worlds g c = λ w agrees.
    let led = c.replay.ensures.worlds w agrees in
    (led.0, replays_script _ _ _ _ _ _ _ _ c.in-Some.is c.deref.ensures.value c.replay_told.ensures led.1, led.2)
