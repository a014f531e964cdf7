-- What holds of every cursor in a run of lines.
use Rattle.std.specs.Prelude.{◌≡◌, ℕ, List, ◌∷◌, ◌++◌}
use Rattle.med_syntax.specs.Prelude.{Name, SelectTree}
use Rattle.sql_meaning.specs.Steps.{new_cursor}
use Rattle.session_wire.specs.Worlds.{Scene, SceneSteps}
use Rattle.session_wire.specs.Exchanges.{Exchange, Exchanged}
use Rattle.session_wire.specs.Fetching.{Declares, GivesOneAnswer}
use Rattle.session_wire.specs.Leases.{KeepsLeased}

-- At a DECLARE that was done, the lines before it lead from old to a scene, and it with those after it from there to new; and through
-- whatever scenes they lead, the FETCHes after it give one answer over the tables as they stand there, and behind each line up to which
-- its cursor stays open these tables have their rows still.
pub record KeepsCursor (old : Scene) (before : List Exchange) (e : Exchange) (after : List Exchange) (new : Scene)
    (sid : ℕ) (name : Name) (q : SelectTree) : Type 0 where
  pub at : Scene
  pub led : Exchanged SceneSteps old before at
  pub leads : Exchanged SceneSteps at (e ∷ after) new
  pub gives : (there : Scene) → Exchanged SceneSteps old before there → Exchanged SceneSteps there (e ∷ after) new
      → GivesOneAnswer sid (new_cursor there.world name q) after
  pub stay : (there mid : Scene) (some others : List Exchange) → after ≡ some ++ others → Exchanged SceneSteps old before there
      → Exchanged SceneSteps there (e ∷ some) mid → KeepsLeased there some mid sid (new_cursor there.world name q)

-- so it is at each DECLARE
abbrev pub KeepsCursors : Scene → List Exchange → Scene → Type 0
KeepsCursors old es new =
    (before after : List Exchange) (e : Exchange) (sid : ℕ) (name : Name) (q : SelectTree) → es ≡ before ++ e ∷ after
    → Declares sid name q e → KeepsCursor old before e after new sid name q
