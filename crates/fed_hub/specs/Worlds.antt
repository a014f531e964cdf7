-- What a hub over an engine is, in the direct meaning of SQL over worlds.
use Rattle.std.specs.Prelude.{◌≡◌, ℕ, Option, List}
use Rattle.sql_meaning.specs.Requests.{IsSid}
use Rattle.fdw_api.specs.State.{BoxState}
use Rattle.med_session.specs.Prelude.{World, Agrees, shown}
use Rattle.med_session.specs.declared.engine.Engine.{Engine}
use Rattle.session_wire.specs.Exchanges.{Exchanged}
use Rattle.session_wire.specs.Worlds.{Scene, scene_of, SceneSteps}
use Rattle.session_wire.specs.Runs.{KeepsCursors}
use Rattle.fed_hub.specs.Said.{Said, exchanges_of, part_of}
use Rattle.fed_hub.specs.Accounts.{IsOfVisits}

-- From this scene one list of request lines with their replies leads by steps of the SQL meaning to that one. What was said in each
-- session was said by the connections that were this session, one after the other. Each cursor keeps its tables over the lines of all.
pub record ServesScenes {P : Type 0} (remaining contents : P → Option (List ℕ)) (old new : Scene) : Type 0 where
  pub said : List Said
  pub leads : Exchanged SceneSteps old (exchanges_of said) new
  pub each : (sid : ℕ) → IsSid sid → IsOfVisits remaining contents sid (part_of sid said)
  pub cursors : KeepsCursors old (exchanges_of said) new

-- so it is from each world that agrees with the engine before to one that agrees with it after
abbrev pub ServesWorlds : {W P : Type 0} → (W → BoxState) → (P → Option (List ℕ)) → (P → Option (List ℕ)) → Engine W → Engine W → Type 0
ServesWorlds meaning remaining contents old new =
    (w : World) → Agrees (shown meaning old) w
    → (after : World) × ServesScenes remaining contents (scene_of meaning old w) (scene_of meaning new after)
    × Agrees (shown meaning new) after
