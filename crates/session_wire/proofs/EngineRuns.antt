-- A run of engines is a run of each world that the first engine stands for.
use Rattle.std.proofs.Common.{◌≡◌, ℕ, List, Option, refl, sym, ap, subst}
use Rattle.fdw_api.specs.State.{BoxState}
use Rattle.med_session.specs.Prelude.{World, without_sessions, Agrees, Befell, EachRises, shown}
use Rattle.med_session.specs.declared.engine.Engine.{Engine}
use Rattle.med_world.proofs.Faring.{none_rises, rise_twice}
use Rattle.session_wire.specs.Engines.{EngineSteps, EngineEnds, EngineRises}
use Rattle.session_wire.specs.Lines.{lines_of}
use Rattle.session_wire.specs.Run.{Fed, BrokenOff}
use Rattle.session_wire.specs.Worlds.{Scene, scene_of, SceneSteps, SceneEnds}
use Rattle.session_wire.proofs.Follows.{StepsFollow, EndsFollow, IsKept, run_kept, broken_kept, fed_follows, broken_follows}

-- ---- what boxes count goes up

engine_kept : {W : Type 0} (meaning : W → BoxState) → IsKept (EngineSteps meaning) (EngineEnds meaning) (EngineRises meaning)
engine_kept {W} meaning = record {
  same = λ e. none_rises (shown meaning e).boxes;
  along = λ e f g. rise_twice (shown meaning e).boxes (shown meaning f).boxes (shown meaning g).boxes;
  steps = λ old sid request reply new h. h.leads.rises;
  ends = λ old new h. h.rises;
}

-- ---- worlds follow

-- an engine stands for a world over its own boxes
abbrev Stands : {W : Type 0} → (W → BoxState) → Engine W → Scene → Type 0
Stands meaning e s = Agrees (shown meaning e) s.world × (s.boxes ≡ (shown meaning e).boxes)

steps_follow : {W : Type 0} (meaning : W → BoxState) → StepsFollow (EngineSteps meaning) SceneSteps (Stands meaning)
steps_follow meaning old sid request reply new h s a =
    let leads = h.leads in
    let one = leads.step s.world a.0 in
    let befell = subst (λ boxes. Befell boxes (shown meaning new).boxes leads.trouble) (sym a.1) leads.befell in
    let rises = subst (λ boxes. EachRises boxes (shown meaning new).boxes) (sym a.1) leads.rises in
    (scene_of meaning new one.0, (leads.trouble, befell, rises, (h.reply, h.is, one.1)), (one.2, refl))

ends_follow : {W : Type 0} (meaning : W → BoxState) → EndsFollow (EngineEnds meaning) SceneEnds (Stands meaning)
ends_follow meaning old new h s a = (scene_of meaning new (without_sessions s.world), (refl, subst (λ boxes. EachRises boxes (shown meaning new).boxes) (sym a.1) h.rises), (h.world s.world a.0, refl))

-- a scene with an engine's boxes is the engine's at its world
is_scene : {W : Type 0} (meaning : W → BoxState) (e : Engine W) (s : Scene) → s.boxes ≡ (shown meaning e).boxes → s ≡ scene_of meaning e s.world
is_scene meaning e s same = ap (λ (boxes : List (Option BoxState)). let all : Scene = record { world = s.world; boxes = boxes } in all) same

pub fed_in_worlds : {W : Type 0} (meaning : W → BoxState) (old new : Engine W) (bytes text : List ℕ) (left : Option (List ℕ))
    → Fed (EngineSteps meaning) (EngineEnds meaning) old bytes text new left → (w : World) → Agrees (shown meaning old) w
    → (after : World) × Fed SceneSteps SceneEnds (scene_of meaning old w) bytes text (scene_of meaning new after) left × Agrees (shown meaning new) after
fed_in_worlds meaning old new bytes text left h w agrees =
    let all = fed_follows (EngineSteps meaning) (EngineEnds meaning) SceneSteps SceneEnds (Stands meaning) (steps_follow meaning) (ends_follow meaning)
    old bytes text new left h (scene_of meaning old w) (agrees, refl) in
    (all.0.world, subst (λ s. Fed SceneSteps SceneEnds (scene_of meaning old w) bytes text s left) (is_scene meaning new all.0 all.2.1) all.1, all.2.0)

pub broken_in_worlds : {W : Type 0} (meaning : W → BoxState) (old new : Engine W) (bytes text : List ℕ)
    → BrokenOff (EngineSteps meaning) (EngineEnds meaning) old bytes text new → (w : World) → Agrees (shown meaning old) w
    → (after : World) × BrokenOff SceneSteps SceneEnds (scene_of meaning old w) bytes text (scene_of meaning new after) × Agrees (shown meaning new) after
broken_in_worlds meaning old new bytes text h w agrees =
    let all = broken_follows (EngineSteps meaning) (EngineEnds meaning) SceneSteps SceneEnds (Stands meaning) (steps_follow meaning) (ends_follow meaning)
    old bytes text new h (scene_of meaning old w) (agrees, refl) in
    (all.0.world, subst (λ s. BrokenOff SceneSteps SceneEnds (scene_of meaning old w) bytes text s) (is_scene meaning new all.0 all.2.1) all.1, all.2.0)

-- boxes rise while an engine is fed
pub fed_rises : {W : Type 0} (meaning : W → BoxState) (old new : Engine W) (bytes text : List ℕ) (left : Option (List ℕ)) → Fed (EngineSteps meaning) (EngineEnds meaning) old bytes text new left → EngineRises meaning old new
fed_rises meaning old new bytes text left h = run_kept (EngineSteps meaning) (EngineEnds meaning) (EngineRises meaning) (engine_kept meaning) old (lines_of bytes) text new h.run

pub broken_rises : {W : Type 0} (meaning : W → BoxState) (old new : Engine W) (bytes text : List ℕ) → BrokenOff (EngineSteps meaning) (EngineEnds meaning) old bytes text new → EngineRises meaning old new
broken_rises meaning old new bytes text h = broken_kept (EngineSteps meaning) (EngineEnds meaning) (EngineRises meaning) (engine_kept meaning) old bytes text new h
