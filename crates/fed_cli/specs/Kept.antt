-- What an engine is that served a stream and is kept.
use Rattle.std.specs.Prelude.{◌≡◌, ℕ, List, [], Option, Result}
use Rattle.med_session.specs.Prelude.{World, without_sessions, Shown, Agrees, EachRises}
use Rattle.fdw_api.specs.State.{BoxState}
use Rattle.session_wire.specs.Worlds.{SceneSteps, SceneEnds}
use Rattle.fed_stream.specs.Streams.{Stream}
use Rattle.fed_stream.specs.Served.{Serves}
use Rattle.fed_stream.specs.declared.stream.Ended.{Ended}
use Rattle.fed_stream.specs.declared.stream.StreamFault.{StreamFault}
use Rattle.fed_setup.specs.Setup.{over}

-- A stream is served by an engine that shows this before and that after, from one world to another. What was read and written is that of a
-- run, line by line over what the boxes show. Then its sessions are ended, for which the boxes only count what is asked of them. The world
-- that the run leads to, with its sessions ended, is the one that is left, and the engine stands for it.
pub record KeepsServed (old new : Shown) (w after : World) (input output : Stream) (result : Result Ended StreamFault) : Type 0 where
  pub last : World
  pub left : Option (List ℕ)
  pub ran : List (Option BoxState)
  pub serves : Serves SceneSteps SceneEnds (over old w) [] (record { world = last; boxes = ran }) left input output result
  pub rises : EachRises ran new.boxes
  pub ended : after ≡ without_sessions last
  pub agrees : Agrees new after
