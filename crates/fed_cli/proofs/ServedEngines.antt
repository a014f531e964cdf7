-- An engine that is served to the end of its input, and handed back.
use Rattle.std.proofs.Common.{◌≡◌, ℕ, Bool, true, false, cond, List, [], Option, Some, None, Result, Err, refl, sym, subst}
use Rattle.fdw_api.specs.State.{BoxState}
use Rattle.med_exec.specs.Slots.{states}
use Rattle.med_session.specs.Prelude.{World, without_sessions, Shown, Agrees, EachRises, ClosesAll, shown}
use Rattle.med_world.proofs.Faring.{none_rises, rise_twice}
use Rattle.med_session.specs.declared.engine.Engine.{Engine}
use Rattle.session_wire.specs.Lines.{lines_within}
use Rattle.session_wire.specs.Engines.{EngineSteps, EngineEnds}
use Rattle.session_wire.specs.Servers.{handler_of, is_closed, held_back, unread_of}
use Rattle.session_wire.specs.Worlds.{scene_of, SceneSteps, SceneEnds}
use Rattle.session_wire.specs.declared.server.Server.{Server}
use Rattle.fed_stream.specs.Streams.{Stream, stream}
use Rattle.fed_stream.specs.Served.{Serves}
use Rattle.fed_cli.specs.Answered.{ServesWorld}
use Rattle.fed_stream.specs.declared.stream.Ended.{Ended}
use Rattle.fed_stream.specs.declared.stream.StreamFault.{StreamFault}
use Rattle.fed_stream.specs.declared.stream.StreamFault.TheVariants.{NoRoom}
use Rattle.std.proofs.KnownBytes.{Consumes-nil, Appends-nil}

-- a server of which some bytes are left unread is open, and holds them back
pub open_server : {H : Type 0} (server : Server H) (bytes : List ℕ) → unread_of server ≡ Some bytes → (is_closed server ≡ false) × (held_back server ≡ bytes)
open_server server bytes e = split (is_closed server) refl e
  where
    split : (b : Bool) → is_closed server ≡ b → cond b None (Some (held_back server)) ≡ Some bytes → (is_closed server ≡ false) × (held_back server ≡ bytes)
    split true q r = absurd cc
    split false q r = (q, cc)

-- the law of worlds, as its public contract says it
abbrev pub Law : {W : Type 0} → (W → BoxState) → Type 0
Law {W} meaning = (old new : Engine W) (before : List ℕ) (left : Option (List ℕ)) (input output : Stream) (result : Result Ended StreamFault)
    → Serves (EngineSteps meaning) (EngineEnds meaning) old before new left input output result → (w : World) → Agrees (shown meaning old) w
    → (after : World) × Serves SceneSteps SceneEnds (scene_of meaning old w) before (scene_of meaning new after) left input output result × Agrees (shown meaning new) after

-- the engine is handed back: once more its sessions are closed, and then its boxes are these
abbrev HandsBack : {W : Type 0} → (W → BoxState) → Engine W → List (Option W) → Type 0
HandsBack meaning closed slots = (last : Shown) × ClosesAll (shown meaning closed) last × (states meaning slots ≡ last.boxes)

-- a new server was served, and its engine is handed back
pub serves_world : {W : Type 0} (meaning : W → BoxState) (server : Server (Engine W)) (engine new closed : Engine W) (slots : List (Option W)) (left : Option (List ℕ)) (input output : Stream) (result : Result Ended StreamFault)
    → Law meaning → handler_of server ≡ engine → unread_of server ≡ Some []
    → (is_closed server ≡ false → Serves (EngineSteps meaning) (EngineEnds meaning) (handler_of server) (held_back server) new left input output result)
    → EngineEnds meaning new closed → HandsBack meaning closed slots
    → (w : World) → Agrees (shown meaning engine) w → ServesWorld (shown meaning engine).boxes (states meaning slots) w input output result
serves_world meaning server engine new closed slots left input output result law of unread serves ends (last, closes, is) w agrees =
    let both = open_server server [] unread in
    let begun = subst (λ b. Serves (EngineSteps meaning) (EngineEnds meaning) (handler_of server) b new left input output result) both.1 (serves both.0) in
    let run = subst (λ e. Serves (EngineSteps meaning) (EngineEnds meaning) e [] new left input output result) of begun in
    let one = law engine new [] left input output result run w agrees in
    record {
      after = one.0;
      left = left;
      ran = (shown meaning new).boxes;
      serves = one.1;
      rises = subst (λ b. EachRises (shown meaning new).boxes b) (sym is) (rise_twice (shown meaning new).boxes (shown meaning closed).boxes last.boxes ends.rises closes.rises);
      engine = last;
      boxes = sym is;
      agrees = closes.world (without_sessions one.0) (ends.world one.0 one.2);
    }

-- there was no room for a server
pub no_server : {W : Type 0} (meaning : W → BoxState) (back engine closed : Engine W) (slots : List (Option W)) (had held : Option (List ℕ))
    → back ≡ engine → EngineEnds meaning back closed → HandsBack meaning closed slots
    → (w : World) → Agrees (shown meaning engine) w → ServesWorld (shown meaning engine).boxes (states meaning slots) w (stream had had) (stream held held) (Err NoRoom)
unfolding lines_within
no_server meaning back engine closed slots had held same ends (last, closes, is) w agrees =
    let rises : EachRises (shown meaning engine).boxes (states meaning slots) = subst (λ b. EachRises (shown meaning engine).boxes b) (sym is)
    (rise_twice (shown meaning engine).boxes (shown meaning closed).boxes last.boxes (subst (λ e. EachRises (shown meaning e).boxes (shown meaning closed).boxes) same ends.rises) closes.rises) in
    record {
      after = without_sessions w;
      left = None;
      ran = states meaning slots;
      serves = (
        record {
          between = had;
          mid = scene_of meaning engine w;
          after = [];
          served = record { bytes = []; text = []; read = Consumes-nil had; written = Appends-nil held; fed = record { run = (refl, refl); unread = refl } };
          piece = [];
          read = Consumes-nil had;
          text = [];
          broken = record { last = scene_of meaning engine w; front = (refl, refl); sessions = (refl, rises) };
        },
        refl,
      );
      rises = none_rises (states meaning slots);
      engine = last;
      boxes = sym is;
      agrees = closes.world (without_sessions w) (ends.world w (subst (λ e. Agrees (shown meaning e) w) (sym same) agrees));
    }
