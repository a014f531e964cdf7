-- What the requests of a replay and the close of its session do, to an engine, and to a world over what its boxes show.
use Rattle.std.specs.Prelude.{◌≡◌, ℕ, None}
use Rattle.fdw_api.specs.State.{BoxState}
use Rattle.med_session.specs.Prelude.{AskedLine, Reply, Trouble, Step, with_session, Leads, Closes, Befell, EachRises, shown}
use Rattle.med_session.specs.declared.engine.Engine.{Engine}
use Rattle.session_wire.specs.Worlds.{Scene}
use Rattle.fed_setup.specs.Replays.{session}

-- a request is answered by an engine: from each world that agrees with the old one a step leads to this reply, and to a world that agrees
-- with the new one
abbrev pub EngineAnswers : {W : Type 0} → (W → BoxState) → Engine W → ℕ → AskedLine → Reply → Engine W → Type 0
EngineAnswers meaning old sid request reply new = Leads (shown meaning old) sid request reply (shown meaning new)

-- A request is answered by the reply to which a step leads, under some trouble that befell it: a source failed only where a box counted a
-- fault in it, or its count stands at its end after it; numbers are used up only where a box has given them all after it. Want of memory no
-- box shows. No box comes, one goes only idle and for good, and what each counts goes up alone.
abbrev pub SceneAnswers : Scene → ℕ → AskedLine → Reply → Scene → Type 0
SceneAnswers old sid request reply new =
    (t : Trouble) × Befell old.boxes new.boxes t × EachRises old.boxes new.boxes × Step old.world sid request t reply new.world

-- the session of a replay is closed, of an engine
abbrev pub EngineCloses : {W : Type 0} → (W → BoxState) → Engine W → Engine W → Type 0
EngineCloses meaning old new = Closes (shown meaning old) session (shown meaning new)

-- of a world, and the boxes have counted what was asked of them for it, and nothing more
abbrev pub SceneCloses : Scene → Scene → Type 0
SceneCloses old new = (new.world ≡ with_session old.world session None) × EachRises old.boxes new.boxes
