-- What the engine's statements on cursors do: DECLARE, FETCH and CLOSE.
use Rattle.std.specs.Prelude.{◌≡◌, ◌-◌, ℕ, List, Option, Some, slice_set}
use Rattle.med_syntax.specs.Prelude.{Name, SelectTree, CursorTree, declare, fetch, close}
use Rattle.fdw_api.specs.State.{BoxState}
use Rattle.med_exec.specs.declared.running.Run.{Run}
use Rattle.med_exec.specs.Prelude.{ServesRun, none_held}
use Rattle.med_exec.specs.Rests.{held}
use Rattle.med_world.specs.Open.{Opened, Seated}
use Rattle.med_world.specs.Starting.{leases_of}
use Rattle.med_world.specs.Engine.{Shown}

-- the cursor that DECLARE opens
abbrev pub new_opened : Name → List Name → SelectTree → Run → Opened
new_opened name names q run = record { name = name; names = names; leases = leases_of q; run = run }

-- the engine with these cursors of a session, and its boxes as they are now
abbrev pub with_cursors : Shown → ℕ → Seated → List Opened → List (Option BoxState) → Shown
with_cursors e sid seat cursors boxes =
    record e { seats = slice_set e.seats (sid - 1) (Some (record seat { cursors = cursors })); boxes = boxes }

-- the session, its cursors asked for a row so often
abbrev pub having_asked : Seated → ℕ → Seated
having_asked seat asked = record seat { asked = asked }

-- a FETCH or a CLOSE of this cursor
abbrev pub IsOfOpen : Name → CursorTree → Type 0
IsOfOpen name (declare other q) = ⊥
IsOfOpen name (fetch asked other) = other ≡ name
IsOfOpen name (close other) = other ≡ name

-- A run was closed, after it was asked for rows or without that.
pub data Ends (run : Run) (old new : List (Option BoxState)) : Type 0 where
  at_once : ServesRun (held run) none_held old new → Ends run old new
  later : (after : Run) (mid : List (Option BoxState)) → ServesRun (held run) (held after) old mid
      → ServesRun (held after) none_held mid new → Ends run old new
