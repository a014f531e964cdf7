-- What is answered to the lines of a stream, in the direct meaning of SQL over worlds.
use Rattle.std.specs.Prelude.{◌≡◌, Option, List}
use Rattle.fdw_api.specs.State.{BoxState}
use Rattle.med_session.specs.Prelude.{World, without_sessions, Reply, reply_text, Trouble, Step, Befell, EachRises, shown}
use Rattle.med_session.specs.declared.engine.Engine.{Engine}
use Rattle.session_wire.specs.Run.{Steps}

-- What stands between two lines: a world, and what the boxes of its sources show.
pub record Scene : Type 0 where
  pub world : World
  pub boxes : List (Option BoxState)

-- this world over the boxes of an engine
abbrev pub scene_of : {W : Type 0} → (W → BoxState) → Engine W → World → Scene
scene_of meaning engine w = record { world = w; boxes = (shown meaning engine).boxes }

-- A request is answered by the text of a reply to which a step leads, under some trouble that befell it in its own line: a source failed
-- only where a box counted a fault in this line, or its count stands at its end after it; numbers are used up only where a box has given
-- them all after it. Want of memory no box shows. No box comes, one goes only idle and for good, and
-- what each counts goes up alone.
abbrev pub SceneSteps : Steps Scene
SceneSteps old sid request text new =
    (t : Trouble) × Befell old.boxes new.boxes t × EachRises old.boxes new.boxes
    × ((reply : Reply) × (text ≡ reply_text sid reply) × Step old.world sid request t reply new.world)

-- every session is ended, and the boxes have counted what was asked of them for it, and nothing more
abbrev pub SceneEnds : Scene → Scene → Type 0
SceneEnds old new = (new.world ≡ without_sessions old.world) × EachRises old.boxes new.boxes
