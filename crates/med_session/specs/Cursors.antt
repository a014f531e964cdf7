-- What DECLARE, FETCH and CLOSE do to the cursors of a session and to the boxes (SQL:2016, <declare cursor>, <fetch statement>,
-- <close statement>).
use Rattle.std.specs.Prelude.{◌≡◌, ℕ, true, List, [], ◌∷◌, ◌++◌, Option, Some, None, is_some, string_bytes}
use Rattle.med_value.specs.Datum.{Tuple}
use Rattle.med_value.specs.declared.cause.Cause.{Cause}
use Rattle.med_value.specs.declared.cause.Cause.TheVariants.{DuplicateCursor, InvalidCursorName, OutOfMemory}
use Rattle.med_syntax.specs.Prelude.{Name, SelectTree, CountTree}
use Rattle.fdw_api.specs.State.{BoxState}
use Rattle.med_exec.specs.declared.running.Run.{Run}
use Rattle.med_exec.specs.Prelude.{PullsNone, ServesRun, none_held}
use Rattle.med_exec.specs.Rests.{held}
use Rattle.med_catalog.specs.Objects.{Objects}
use Rattle.med_binder.specs.Places.{Attached}
use Rattle.med_world.specs.Prelude.{Opened, Seated, is_full, opened_named, without_named, with_run, Starts, StartFails, seat_of, new_opened, with_cursors, having_asked, Ends, Shown, Leads}
use Rattle.med_world.specs.Fetching.{GivesRows, GivesNone, HasRisen, PullsFetched, PullsEnded, cause_of}
use Rattle.sql_meaning.specs.Prelude.{AskedLine, refused}
use Rattle.med_statements.specs.declared.replies.Outcome.{Outcome}
use Rattle.med_statements.specs.declared.replies.Outcome.TheVariants as outcome
use Rattle.med_session.specs.declared.cursors.FetchFault.{FetchFault}
use Rattle.med_session.specs.declared.cursors.FetchFault.TheVariants as fault

-- ---- in a session

-- the session with these cursors
abbrev pub having : Seated → List Opened → Seated
having seat cursors = record seat { cursors = cursors }

-- A cursor was opened: no other had its name, and it stands last.
pub record Opens (o : Objects) (bound : List Attached) (name : Name) (q : SelectTree) (seat : Seated) (old : List (Option BoxState))
    (after : Seated) (new : List (Option BoxState)) : Type 0 where
  pub names : List Name
  pub run : Run
  pub unknown : opened_named name seat.cursors ≡ None
  pub starts : Starts o seat.user bound q (is_full seat.cursors) old names run new
  pub is : after ≡ having seat (seat.cursors ++ new_opened name names q run ∷ [])

-- why it was not
pub data OpensNone (o : Objects) (bound : List Attached) (name : Name) (q : SelectTree) (seat : Seated) (old : List (Option BoxState))
    (c : Cause) (new : List (Option BoxState)) : Type 0 where
  is_taken : c ≡ DuplicateCursor → is_some (opened_named name seat.cursors) ≡ true → new ≡ old → OpensNone o bound name q seat old c new
  no_memory : c ≡ OutOfMemory → new ≡ old → OpensNone o bound name q seat old c new
  not_started : opened_named name seat.cursors ≡ None → StartFails o seat.user bound q (is_full seat.cursors) old c new
      → OpensNone o bound name q seat old c new

-- Rows of the cursor of this name were given, under its output names, and its run goes on behind them. How often it was asked is counted.
pub record Fetched (name : Name) (asked : CountTree) (seat : Seated) (old : List (Option BoxState)) (names : List Name)
    (rows : List Tuple) (after : Seated) (new : List (Option BoxState)) : Type 0 where
  pub at : Opened
  pub there : opened_named name seat.cursors ≡ Some at
  pub named : names ≡ at.names
  pub run : Run
  pub count : ℕ
  pub gives : GivesRows at.run asked old rows run new
  pub pulls : PullsFetched asked at.run old seat.asked run new count
  pub is : after ≡ having (having_asked seat count) (with_run name run seat.cursors)

-- no cursor was asked for a row: there is none of this name, or memory was refused before
pub data NoneAsked (name : Name) (seat : Seated) (c : Cause) : Type 0 where
  is_unknown : c ≡ InvalidCursorName → opened_named name seat.cursors ≡ None → NoneAsked name seat c
  lacks_memory : c ≡ OutOfMemory → NoneAsked name seat c

-- then all is as it was
pub record KeepsCursors (name : Name) (seat : Seated) (old : List (Option BoxState)) (c : Cause) (after : Seated)
    (new : List (Option BoxState)) : Type 0 where
  pub why : NoneAsked name seat c
  pub seat_kept : after ≡ seat
  pub boxes_kept : new ≡ old

-- The cursor of this name was asked for rows, which was counted, failed, and is closed and gone. It was asked for no more than so many.
pub record GivesUp (name : Name) (asked : CountTree) (seat : Seated) (old : List (Option BoxState)) (c : Cause) (after : Seated)
    (new : List (Option BoxState)) : Type 0 where
  pub at : Opened
  pub there : opened_named name seat.cursors ≡ Some at
  pub count : ℕ
  pub risen : HasRisen seat.asked count
  pub gives : GivesNone c old new
  pub ends : Ends at.run old new
  pub pulls : PullsEnded asked at.run old new
  pub is : after ≡ having (having_asked seat count) (without_named name seat.cursors)

-- Why no rows were given. A fault that says that nothing was asked has kept all; a cursor is given up by what a run that was asked tells
-- alone.
abbrev pub NotFetched : Name → CountTree → Seated → List (Option BoxState) → FetchFault → Seated → List (Option BoxState) → Type 0
NotFetched name asked seat old (fault.Unasked c) after new = KeepsCursors name seat old c after new
NotFetched name asked seat old (fault.Failed u) after new = GivesUp name asked seat old (cause_of u.fault) after new

-- the cause that a fault of FETCH is told by
abbrev pub cause_in : FetchFault → Cause
cause_in (fault.Unasked c) = c
cause_in (fault.Failed u) = cause_of u.fault

-- The cursor of this name was closed, and is gone. No row was given.
pub record Ended (name : Name) (seat : Seated) (old : List (Option BoxState)) (after : Seated) (new : List (Option BoxState)) : Type 0 where
  pub at : Opened
  pub there : opened_named name seat.cursors ≡ Some at
  pub closes : ServesRun (held at.run) none_held old new
  pub pulls : PullsNone old new
  pub is : after ≡ having seat (without_named name seat.cursors)

-- there is none of this name
pub record NotEnded (name : Name) (seat : Seated) (old : List (Option BoxState)) (c : Cause) (after : Seated)
    (new : List (Option BoxState)) : Type 0 where
  pub told : c ≡ InvalidCursorName
  pub unknown : opened_named name seat.cursors ≡ None
  pub seat_kept : after ≡ seat
  pub boxes_kept : new ≡ old

-- ---- in an engine

-- the session has a cursor of this name
pub record HasCursor (e : Shown) (sid : ℕ) (name : Name) : Type 0 where
  pub seat : Seated
  pub is_open : seat_of e.seats sid ≡ Some seat
  pub there : is_some (opened_named name seat.cursors) ≡ true

-- the session's cursor of this name was closed, and is gone, and no row was given
pub record LosesCursor (old : Shown) (sid : ℕ) (name : Name) (new : Shown) : Type 0 where
  pub seat : Seated
  pub is_open : seat_of old.seats sid ≡ Some seat
  pub at : Opened
  pub there : opened_named name seat.cursors ≡ Some at
  pub closes : ServesRun (held at.run) none_held old.boxes new.boxes
  pub pulls : PullsNone old.boxes new.boxes
  pub is : new ≡ with_cursors old sid seat (without_named name seat.cursors) new.boxes

-- The rows of a FETCH need not be told: its cursor is there, and once that is closed too, the request is answered by want of memory.
pub record MayBeUntold (old : Shown) (sid : ℕ) (request : AskedLine) (name : Name) (now : Shown) : Type 0 where
  pub has : HasCursor now sid name
  pub lost : (new : Shown) → LosesCursor now sid name new → Leads old sid request (refused OutOfMemory) new

-- this holds of a FETCH that gave rows
abbrev pub IfFetched : Outcome → (Name → Type 0) → Type 0
IfFetched (outcome.Fetched name set) P = P (string_bytes name)
IfFetched other P = Unit {0}
