-- Replays of engines, of their boxes, and of the worlds that they stand for.
use Rattle.std.proofs.lemmas.Str.{is_utf8-from_IsUtf8, IsUtf8-from_is_utf8}
use Rattle.std.specs.Str.{IsUtf8, is_utf8}
use Rattle.std.proofs.Common.{◌≡◌, Bool, true, false, ℕ, List, [], ◌∷◌, Option, Some, None, option_map, Result, Ok, Err, refl, sym, ap, subst, lit≤}
use Rattle.fdw_api.specs.State.{BoxState}
use Rattle.med_session.specs.Prelude.{AskedLine, Reply, World, Session, with_session, Agrees, Befell, EachRises, shown}
use Rattle.med_world.specs.Prelude.{seat_of, user_of, SeatAgrees, Seated}
use Rattle.med_session.specs.declared.engine.Engine.{Engine}
use Rattle.med_world.proofs.Faring.{none_rises, rise_twice}
use Rattle.session_wire.specs.Engines.{EngineRises}
use Rattle.session_wire.specs.Worlds.{Scene, scene_of}
use Rattle.fed_setup.specs.Scripts.{Numbered, statement_lines}
use Rattle.fed_setup.specs.Replays.{session, Answers, requests_of, AreDone, Ends, Runs, Replays, not_text, runs}
use Rattle.fed_setup.specs.Engines.{EngineAnswers, EngineCloses, SceneAnswers, SceneCloses}
use Rattle.fed_setup.specs.declared.script.ScriptFault.{ScriptFault}
use Rattle.fed_setup.specs.declared.script.ScriptFault.TheVariants as fault

-- ---- a run of states is a run of what they stand for

-- each step of a state is a step of everything that it stands for
abbrev pub StepsFollow : {W V : Type 0} → Answers W → Answers V → (W → V → Type 0) → Type 0
StepsFollow {W} {V} step steps agrees = (old : W) (sid : ℕ) (request : AskedLine) (reply : Reply) (new : W) → step old sid request reply new
    → (v : V) → agrees old v → (w : V) × steps v sid request reply w × agrees new w

done_follows : {W V : Type 0} (step : Answers W) (steps : Answers V) (agrees : W → V → Type 0) → StepsFollow step steps agrees
    → (old : W) (rs : List (ℕ × AskedLine)) (new : W) → AreDone step old rs new → (v : V) → agrees old v → (w : V) × AreDone steps v rs w × agrees new w
done_follows step steps agrees f old [] new h v a = (v, refl, subst (λ s. agrees s v) (sym h) a)
done_follows step steps agrees f old (r ∷ rs) new h v a =
    let one = f old session r.1 h.1.0 h.0 h.1.1 v a in
    let more = done_follows step steps agrees f h.0 rs new h.2 one.0 one.2 in
    (more.0, (one.0, (h.1.0, one.1, h.1.2), more.1), more.2)

ends_follow : {W V : Type 0} (step : Answers W) (steps : Answers V) (agrees : W → V → Type 0) → StepsFollow step steps agrees
    → (old : W) (r : ℕ × AskedLine) (why : ScriptFault) (new : W) → Ends step old r why new → (v : V) → agrees old v → (w : V) × Ends steps v r why w × agrees new w
ends_follow step steps agrees f old r (fault.Line number c) new h v a =
    let one = f old session r.1 _ new h.2 v a in
    (one.0, (h.0, h.1, one.1), one.2)
ends_follow step steps agrees f old r fault.NoMemory new h v a = f old session r.1 _ new h v a
ends_follow step steps agrees f old r fault.NotText new h v a = absurd h

runs_follow : {W V : Type 0} (step : Answers W) (steps : Answers V) (agrees : W → V → Type 0) → StepsFollow step steps agrees
    → (old : W) (owner : List ℕ) (lines : List Numbered) (result : Result ℕ ScriptFault) (new : W) → Runs step old owner lines result new
    → (v : V) → agrees old v → (w : V) × Runs steps v owner lines result w × agrees new w
runs_follow step steps agrees f old owner lines (Ok count) new h v a =
    let all = done_follows step steps agrees f old (requests_of owner lines) new h.0 v a in
    (all.0, (all.1, h.1), all.2)
runs_follow step steps agrees f old owner lines (Err why) new h v a =
    let front = done_follows step steps agrees f old h.before h.mid h.done v a in
    let last = ends_follow step steps agrees f h.mid h.request why new h.ends front.0 front.2 in
    (last.0, record { before = h.before; request = h.request; after = h.after; are = h.are; mid = front.0; done = front.1; ends = last.1 }, last.2)

-- ---- of an engine and a world over its boxes

-- an engine stands for a world over its own boxes
abbrev Stands : {W : Type 0} → (W → BoxState) → Engine W → Scene → Type 0
Stands meaning e s = Agrees (shown meaning e) s.world × (s.boxes ≡ (shown meaning e).boxes)

steps_follow : {W : Type 0} (meaning : W → BoxState) → StepsFollow (EngineAnswers meaning) SceneAnswers (Stands meaning)
steps_follow meaning old sid request reply new h s a =
    let one = h.step s.world a.0 in
    let befell = subst (λ boxes. Befell boxes (shown meaning new).boxes h.trouble) (sym a.1) h.befell in
    let rises = subst (λ boxes. EachRises boxes (shown meaning new).boxes) (sym a.1) h.rises in
    (scene_of meaning new one.0, (h.trouble, befell, rises, one.1), (one.2, refl))

closes_follows : {W : Type 0} (meaning : W → BoxState) (old new : Engine W) (s : Scene) → EngineCloses meaning old new → s.boxes ≡ (shown meaning old).boxes
    → SceneCloses s (scene_of meaning new (with_session s.world session None))
closes_follows meaning old new s h same = (refl, subst (λ boxes. EachRises boxes (shown meaning new).boxes) (sym same) h.rises)

-- where the engine has no user of a session, a world that agrees has it closed
shut_by : (boxes : List (Option BoxState)) (w : World) (o : Option Seated) (s : Option Session) → SeatAgrees boxes w o s → option_map (λ (x : Seated). x.user) o ≡ None → s ≡ None
shut_by boxes w None None h e = refl
shut_by boxes w None (Some s) h e = absurd h
shut_by boxes w (Some seat) s h e = absurd cc

pub in_worlds : {W : Type 0} (meaning : W → BoxState) (old new : Engine W) (owner script : List ℕ) (result : Result ℕ ScriptFault)
    → Replays (EngineAnswers meaning) (EngineCloses meaning) old owner script result new
    → (w : World) → Agrees (shown meaning old) w
    → (after : World) × Replays SceneAnswers SceneCloses (scene_of meaning old w) owner script result (scene_of meaning new after)
    × Agrees (shown meaning new) after × (user_of (shown meaning old).seats session ≡ None → after.sessions session ≡ None)
in_worlds meaning old new owner script result (not_text t r same) w a =
    (w, not_text t r (ap (λ e. scene_of meaning e w) same), subst (λ e. Agrees (shown meaning e) w) (sym same) a, λ closed. shut_by (shown meaning old).boxes w (seat_of (shown meaning old).seats session) (w.sessions session) (a.sessions session (lit≤ tt, lit≤ tt)) closed)
in_worlds meaning old new owner script result (runs t last h closes) w a =
    let one = runs_follow (EngineAnswers meaning) SceneAnswers (Stands meaning) (steps_follow meaning) old owner (statement_lines script) result last h (scene_of meaning old w) (a, refl) in
    (with_session one.0.world session None, runs t one.0 one.1 (closes_follows meaning last new one.0 closes one.2.1), closes.world one.0.world one.2.0, λ closed. refl)

-- ---- what boxes count goes up

same_rises : {W : Type 0} (meaning : W → BoxState) (old new : Engine W) → new ≡ old → EngineRises meaning old new
same_rises meaning old new same = subst (λ e. EngineRises meaning old e) (sym same) (none_rises (shown meaning old).boxes)

along : {W : Type 0} (meaning : W → BoxState) (a b c : Engine W) → EngineRises meaning a b → EngineRises meaning b c → EngineRises meaning a c
along meaning a b c = rise_twice (shown meaning a).boxes (shown meaning b).boxes (shown meaning c).boxes

done_rises : {W : Type 0} (meaning : W → BoxState) (old : Engine W) (rs : List (ℕ × AskedLine)) (new : Engine W) → AreDone (EngineAnswers meaning) old rs new → EngineRises meaning old new
done_rises meaning old [] new h = same_rises meaning old new h
done_rises meaning old (r ∷ rs) new h = along meaning old h.0 new h.1.1.rises (done_rises meaning h.0 rs new h.2)

ends_rises : {W : Type 0} (meaning : W → BoxState) (old : Engine W) (r : ℕ × AskedLine) (why : ScriptFault) (new : Engine W) → Ends (EngineAnswers meaning) old r why new → EngineRises meaning old new
ends_rises meaning old r (fault.Line number c) new h = h.2.rises
ends_rises meaning old r fault.NoMemory new h = h.rises
ends_rises meaning old r fault.NotText new h = absurd h

run_rises : {W : Type 0} (meaning : W → BoxState) (old : Engine W) (owner : List ℕ) (lines : List Numbered) (result : Result ℕ ScriptFault) (new : Engine W)
    → Runs (EngineAnswers meaning) old owner lines result new → EngineRises meaning old new
run_rises meaning old owner lines (Ok count) new h = done_rises meaning old (requests_of owner lines) new h.0
run_rises meaning old owner lines (Err why) new h = along meaning old h.mid new (done_rises meaning old h.before h.mid h.done) (ends_rises meaning h.mid h.request why new h.ends)

pub replay_rises : {W : Type 0} (meaning : W → BoxState) (old new : Engine W) (owner script : List ℕ) (result : Result ℕ ScriptFault)
    → Replays (EngineAnswers meaning) (EngineCloses meaning) old owner script result new → EngineRises meaning old new
replay_rises meaning old new owner script result (not_text t r same) = same_rises meaning old new same
replay_rises meaning old new owner script result (runs t last h closes) =
    along meaning old last new (run_rises meaning old owner (statement_lines script) result last h)
    closes.rises

-- ---- the two ends of a replay

not_utf8 : (b : Bool) → (b ≡ true → ⊥) → b ≡ false
not_utf8 true h = absurd (h refl)
not_utf8 false h = refl

pub no_text : {W : Type 0} (step : Answers W) (closes : W → W → Type 0) (old : W) (owner script : List ℕ) → (IsUtf8 script → ⊥) → Replays step closes old owner script (Err fault.NotText) old
no_text step closes old owner script h = not_text (not_utf8 (is_utf8 script) (λ e. h (IsUtf8-from_is_utf8 script e))) refl refl

pub ran : {W : Type 0} (step : Answers W) (closes : W → W → Type 0) (old : W) (owner script text : List ℕ) (result : Result ℕ ScriptFault) (last new : W) → IsUtf8 script → text ≡ script
    → Runs step old owner (statement_lines text) result last → closes last new → Replays step closes old owner script result new
ran step closes old owner script text result last new u same h k =
    runs (is_utf8-from_IsUtf8 script u) last (subst (λ t. Runs step old owner (statement_lines t) result last) same h) k
