-- What a stream served over an engine is, in the direct meaning of SQL over worlds.
use Rattle.std.specs.Prelude.{◌≡◌, ℕ, List, [], Option, Result, Ok}
use Rattle.fdw_api.specs.State.{BoxState}
use Rattle.med_session.specs.Prelude.{World, without_sessions, Shown, Agrees, EachRises}
use Rattle.session_wire.specs.Worlds.{SceneSteps, SceneEnds}
use Rattle.fed_stream.specs.Streams.{Stream}
use Rattle.fed_stream.specs.Served.{Serves}
use Rattle.fed_words.specs.Places.{Place}
use Rattle.fed_setup.specs.Setup.{Outside, Begins}
use Rattle.fed_stream.specs.declared.stream.Ended.{Ended}
use Rattle.fed_stream.specs.declared.stream.StreamFault.{StreamFault}

-- A stream is served from this world on, by sources that show the first boxes before and the last ones when they are handed back. What
-- was read and written is that of a run, line by line over what the boxes show. Then its sessions are ended, for which the boxes only
-- count what is asked of them; and the last boxes stand for the world that the run leads to, with its sessions ended.
pub record ServesWorld (first last : List (Option BoxState)) (w : World)
    (input output : Stream) (result : Result Ended StreamFault) : Type 0 where
  pub after : World
  pub left : Option (List ℕ)
  pub ran : List (Option BoxState)
  pub serves : Serves SceneSteps SceneEnds (record { world = w; boxes = first }) []
      (record { world = after; boxes = ran }) left input output result
  pub rises : EachRises ran last
  pub engine : Shown
  pub boxes : engine.boxes ≡ last
  pub agrees : Agrees engine (without_sessions after)

-- The program serves a stream, that ends so: from the world and the boxes to which its beginning leads, for which an engine stands, to the
-- last boxes, which are those of the sources that it hands back.
pub record ServesProgram (outside : Outside) (owner : List ℕ) (source : Option (List ℕ)) (places : List Place) (script : Option (List ℕ))
    (last : List (Option BoxState)) (input output : Stream) (ended : Result Ended StreamFault) : Type 0 where
  pub world : World
  pub engine : Shown
  pub begins : Begins outside owner source places script (Ok tt) (record { world = world; boxes = engine.boxes })
  pub agrees : Agrees engine world
  pub serves : ServesWorld engine.boxes last world input output ended
