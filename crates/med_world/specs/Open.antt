-- Cursors that are open, as an engine holds them (SQL:2016, <declare cursor>; ISO/IEC 9075-2, 14 "Data manipulation").
use Rattle.std.specs.Prelude.{ℕ, Bool, false, List, [], ◌∷◌, length, map, filter, find, not, cond, flat_map, nat_le, Option, Some, None, option_map, bytes_eq, string_bytes}
use Rattle.std.specs.List.{All, IsDistinct, list_any}
use Rattle.med_value.specs.Limits.{cursor_limit}
use Rattle.med_syntax.specs.Tree.{Name}
use Rattle.fdw_api.specs.State.{BoxState}
use Rattle.med_exec.specs.declared.running.Run.{Run}
use Rattle.med_exec.specs.Prelude.{Held, AreApart}
use Rattle.med_exec.specs.Rests.{held, IsHeld}
use Rattle.med_world.specs.declared.cursors.OpenCursor.{OpenCursor}
use Rattle.med_world.specs.declared.cursors.Seat.{Seat}

-- an open cursor: its name, its output names, the tables that it leases, one for each entry of FROM of each core, and its run
pub record Opened : Type 0 where
  pub name : Name
  pub names : List Name
  pub leases : List Name
  pub run : Run

-- an open session: its user, its cursors in the order in which they were declared, and how often its cursors were asked for a row
pub record Seated : Type 0 where
  pub user : Name
  pub cursors : List Opened
  pub asked : ℕ

abbrev pub opened : OpenCursor → Opened
opened c = record {
  name = string_bytes c.name;
  names = map string_bytes c.names.items;
  leases = map string_bytes c.leases.items;
  run = c.run;
}

abbrev pub seated : Seat → Seated
seated s = record { user = string_bytes s.user; cursors = map opened s.cursors.items; asked = s.asked.times }

-- the sessions by their places: one that is closed has left its place empty
abbrev pub seats_shown : List (Option Seat) → List (Option Seated)
seats_shown seats = map (option_map seated) seats

-- the cursors of a session, if it is open, and those of all sessions
abbrev pub seat_cursors : Option Seated → List Opened
seat_cursors None = []
seat_cursors (Some s) = s.cursors

abbrev pub all_cursors : List (Option Seated) → List Opened
all_cursors seats = flat_map seat_cursors seats

-- a session has as many cursors as it may have, which `cursor_limit` says
abbrev pub is_full : List Opened → Bool
is_full cursors = nat_le cursor_limit (length cursors)

-- ---- by name

-- no two have one name
abbrev pub AreNamedApart : List Opened → Type 0
AreNamedApart cursors = IsDistinct bytes_eq (map (λ (c : Opened). c.name) cursors)

abbrev pub has_name : Name → Opened → Bool
has_name name c = bytes_eq c.name name

-- the cursor of this name
abbrev pub opened_named : Name → List Opened → Option Opened
opened_named name cursors = find (has_name name) cursors

-- all but those of this name
abbrev pub without_named : Name → List Opened → List Opened
without_named name cursors = filter (λ c. not (has_name name c)) cursors

-- the one of this name runs on from here
abbrev pub runs_on : Name → Run → Opened → Opened
runs_on name run c = cond (has_name name c) (record c { run = run }) c

abbrev pub with_run : Name → Run → List Opened → List Opened
with_run name run cursors = map (runs_on name run) cursors

-- ---- leases

-- this cursor, one of these, or one of any session reads the table of this name
abbrev pub leases_table : Name → Opened → Bool
leases_table table c = list_any (bytes_eq table) c.leases

abbrev pub seat_leases : Name → Option Seated → Bool
seat_leases table None = false
seat_leases table (Some s) = list_any (leases_table table) s.cursors

abbrev pub any_leases : List (Option Seated) → Name → Bool
any_leases seats table = list_any (seat_leases table) seats

-- ---- runs

-- the scans that the runs of these hold
abbrev pub held_by : List Opened → Held
held_by cursors = λ slot. flat_map (λ (c : Opened). held c.run slot) cursors

-- the run of each is good for its close
abbrev pub AreHeld : List Opened → List (Option BoxState) → Type 0
AreHeld cursors boxes = All (λ (c : Opened). IsHeld c.run boxes) cursors

-- no scan is held by two of these
abbrev pub AreOwn : List Opened → Type 0
AreOwn [] = Unit {0}
AreOwn (c ∷ cursors) = AreApart (held c.run) (held_by cursors) × AreOwn cursors
