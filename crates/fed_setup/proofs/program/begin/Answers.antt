use Rattle.session_wire.specs.Worlds.{scene_of}
use Rattle.fed_setup.proofs.Begun.{no_first_world, not_read, not_replayed}
use Rattle.fed_setup.proofs.program.begin.Goals as goal

-- there is no first engine
pub returns-in-Err-clause-refused : goal.returns-in-Err-clause-refused
returns-in-Err-clause-refused g c = no_first_world _ c.args.asked.now _ _ c.in-Err.ensures.refused

-- the init file was not read
pub returns-in-Err-read_init-clause-refused : goal.returns-in-Err-read_init-clause-refused
returns-in-Err-read_init-clause-refused g c =
    not_read _ c.args.asked.now _ _ c.in-Ok.ensures.first.2 c.in-Err-read_init.ensures.refused

-- its replay was refused
pub returns-clause-refused : goal.returns-clause-refused
returns-clause-refused g c =
    let first = c.in-Ok.ensures.first in
    let replayed = c.in-Err-replay_init.ensures.worlds first.0 first.1 in
    not_replayed _ c.args.asked.now _ _ (scene_of _ c.in-Ok.engine first.0) _ c.in-Ok-read_init.ensures.read first.2 replayed.1

-- it was replayed
pub returns-in-Ok-replay_init-clause-begins : goal.returns-in-Ok-replay_init-clause-begins
returns-in-Ok-replay_init-clause-begins g c =
    let first = c.in-Ok.ensures.first in
    let replayed = c.in-Ok-replay_init.ensures.worlds first.0 first.1 in
    record {
      world = replayed.0;
      begins = record { first = scene_of _ c.in-Ok.engine first.0; is_first = first.2; replays = replayed.1 };
      agrees = replayed.2;
    }
