-- What is served over an engine is served over each world that it stands for.
use Rattle.std.proofs.Common.{ℕ, List, ◌++◌, Option, Some, Result, Ok, Err}
use Rattle.fdw_api.specs.State.{BoxState}
use Rattle.med_session.specs.Prelude.{World, Agrees, shown}
use Rattle.med_session.specs.declared.engine.Engine.{Engine}
use Rattle.session_wire.specs.Engines.{EngineSteps, EngineEnds}
use Rattle.session_wire.specs.Run.{Fed, BrokenOff}
use Rattle.session_wire.specs.Worlds.{scene_of, SceneSteps, SceneEnds}
use Rattle.fed_stream.specs.Streams.{Stream}
use Rattle.fed_stream.specs.Served.{Served, Ran, Stopped, Serves}
use Rattle.fed_stream.specs.declared.stream.Ended.{Ended}
use Rattle.fed_stream.specs.declared.stream.Ended.TheVariants as ended
use Rattle.fed_stream.specs.declared.stream.StreamFault.{StreamFault}
use Rattle.fed_stream.specs.declared.stream.StreamFault.TheVariants as faults

-- the law of worlds, as its public contract says it
pub record Laws {W : Type 0} (meaning : W → BoxState) : Type 0 where
  pub fed : (old new : Engine W) (bytes text : List ℕ) (left : Option (List ℕ))
      → Fed (EngineSteps meaning) (EngineEnds meaning) old bytes text new left → (w : World) → Agrees (shown meaning old) w
      → (after : World) × Fed SceneSteps SceneEnds (scene_of meaning old w) bytes text (scene_of meaning new after) left × Agrees (shown meaning new) after
  pub broken : (old new : Engine W) (bytes text : List ℕ)
      → BrokenOff (EngineSteps meaning) (EngineEnds meaning) old bytes text new → (w : World) → Agrees (shown meaning old) w
      → (after : World) × BrokenOff SceneSteps SceneEnds (scene_of meaning old w) bytes text (scene_of meaning new after) × Agrees (shown meaning new) after

served_in_worlds : {W : Type 0} (meaning : W → BoxState) → Laws meaning → (old : Engine W) (before : List ℕ) (new : Engine W) (left : Option (List ℕ)) (input output : Stream)
    → Served (EngineSteps meaning) (EngineEnds meaning) old before new left input output → (w : World) → Agrees (shown meaning old) w
    → (after : World) × Served SceneSteps SceneEnds (scene_of meaning old w) before (scene_of meaning new after) left input output × Agrees (shown meaning new) after
served_in_worlds meaning law old before new left input output h w agrees =
    let one = law.fed old new (before ++ h.bytes) h.text left h.fed w agrees in
    (one.0, record { bytes = h.bytes; text = h.text; read = h.read; written = h.written; fed = one.1 }, one.2)

ran_in_worlds : {W : Type 0} (meaning : W → BoxState) → Laws meaning → (old : Engine W) (before : List ℕ) (new : Engine W) (left : Option (List ℕ)) (input output : Stream)
    → Ran (EngineSteps meaning) (EngineEnds meaning) old before new left input output → (w : World) → Agrees (shown meaning old) w
    → (after : World) × Ran SceneSteps SceneEnds (scene_of meaning old w) before (scene_of meaning new after) left input output × Agrees (shown meaning new) after
ran_in_worlds meaning law old before new left input output h w agrees =
    let s = h.served in
    let one = law.fed old h.mid (before ++ s.bytes) s.text (Some h.after) s.fed w agrees in
    let two = law.fed h.mid new (h.after ++ h.last) (h.front ++ h.others) left h.fed one.0 one.2 in (
      two.0,
      record {
        between = h.between;
        shown = h.shown;
        mid = scene_of meaning h.mid one.0;
        after = h.after;
        served = record { bytes = s.bytes; text = s.text; read = s.read; written = s.written; fed = one.1 };
        last = h.last;
        dropped = h.dropped;
        read = h.read;
        one = h.one;
        in_piece = h.in_piece;
        front = h.front;
        others = h.others;
        written = h.written;
        fed = two.1;
      },
      two.2,
    )

stopped_in_worlds : {W : Type 0} (meaning : W → BoxState) → Laws meaning → (old : Engine W) (before : List ℕ) (new : Engine W) (input output : Stream)
    → Stopped (EngineSteps meaning) (EngineEnds meaning) old before new input output → (w : World) → Agrees (shown meaning old) w
    → (after : World) × Stopped SceneSteps SceneEnds (scene_of meaning old w) before (scene_of meaning new after) input output × Agrees (shown meaning new) after
stopped_in_worlds meaning law old before new input output h w agrees =
    let s = h.served in
    let one = law.fed old h.mid (before ++ s.bytes) s.text (Some h.after) s.fed w agrees in
    let two = law.broken h.mid new (h.after ++ h.piece) h.text h.broken one.0 one.2 in (
      two.0,
      record {
        between = h.between;
        mid = scene_of meaning h.mid one.0;
        after = h.after;
        served = record { bytes = s.bytes; text = s.text; read = s.read; written = s.written; fed = one.1 };
        piece = h.piece;
        read = h.read;
        text = h.text;
        broken = two.1;
      },
      two.2,
    )

pub serves_in_worlds : {W : Type 0} (meaning : W → BoxState) → Laws meaning → (old : Engine W) (before : List ℕ) (new : Engine W) (left : Option (List ℕ)) (input output : Stream) (result : Result Ended StreamFault)
    → Serves (EngineSteps meaning) (EngineEnds meaning) old before new left input output result → (w : World) → Agrees (shown meaning old) w
    → (after : World) × Serves SceneSteps SceneEnds (scene_of meaning old w) before (scene_of meaning new after) left input output result × Agrees (shown meaning new) after
serves_in_worlds meaning law old before new left input output (Ok ended.Eof) h w agrees =
    let one = served_in_worlds meaning law old before new left input output h.0 w agrees in (one.0, (one.1, h.1, h.2), one.2)
serves_in_worlds meaning law old before new left input output (Ok ended.Closed) h w agrees =
    let one = served_in_worlds meaning law old before new left input output h.0 w agrees in (one.0, (one.1, h.1), one.2)
serves_in_worlds meaning law old before new left input output (Err faults.Read) h w agrees =
    let one = served_in_worlds meaning law old before new left input output h.0 w agrees in (one.0, (one.1, h.1), one.2)
serves_in_worlds meaning law old before new left input output (Err faults.TooLong) h w agrees =
    let one = served_in_worlds meaning law old before new left input output h.0 w agrees in (one.0, (one.1, h.1), one.2)
serves_in_worlds meaning law old before new left input output (Err faults.Write) h w agrees = ran_in_worlds meaning law old before new left input output h w agrees
serves_in_worlds meaning law old before new left input output (Err faults.NoRoom) h w agrees =
    let one = stopped_in_worlds meaning law old before new input output h.0 w agrees in (one.0, (one.1, h.1), one.2)
