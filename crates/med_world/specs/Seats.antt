-- What an engine has of its sessions and their cursors, and when a world's sessions agree with it.
use Rattle.std.specs.Prelude.{◌≡◌, ◌-◌, ◌≤◌, ℕ, false, List, [], ◌∷◌, ◌++◌, map, length, Option, Some, None, IsSome, option_map, slice_get, Contains}
use Rattle.med_value.specs.Prelude.{Tuple, cursor_limit}
use Rattle.med_syntax.specs.Tree.{Name}
use Rattle.med_query.specs.Query.{IsAnswer}
use Rattle.fdw_api.specs.State.{BoxState}
use Rattle.scan_loops.specs.Running.{HonestFor}
use Rattle.med_exec.specs.Prelude.{levels_in, GivesAsTheyCome}
use Rattle.med_exec.specs.Rests.{Rests}
use Rattle.med_catalog.specs.Objects.{table_named}
use Rattle.med_world.specs.Open.{Opened, Seated, AreNamedApart, opened_named}
use Rattle.sql_meaning.specs.Prelude.{World, Leased, Cursor, Session, cells_of, rows_named, rows_leased, IsBareQuery}

-- ---- by the number of the session

abbrev pub seat_in : Option (Option Seated) → Option Seated
seat_in None = None
seat_in (Some seat) = seat

-- an open session: that of number n stands in place n - 1
abbrev pub seat_of : List (Option Seated) → ℕ → Option Seated
seat_of seats sid = seat_in (slice_get seats (sid - 1))

abbrev pub asked_in : Option Seated → ℕ
asked_in None = 0
asked_in (Some s) = s.asked

-- its cursor of this name
abbrev pub opened_in : Name → Option Seated → Option Opened
opened_in name None = None
opened_in name (Some s) = opened_named name s.cursors

abbrev pub opened_at : List (Option Seated) → ℕ → Name → Option Opened
opened_at seats sid name = opened_in name (seat_of seats sid)

-- its user
abbrev pub user_of : List (Option Seated) → ℕ → Option Name
user_of seats sid = option_map (λ (s : Seated). s.user) (seat_of seats sid)

-- how often the cursors of the session were asked for a row; 0 where it is closed
abbrev pub asked_of : List (Option Seated) → ℕ → ℕ
asked_of seats sid = asked_in (seat_of seats sid)

-- a session that was just opened
abbrev pub new_seat : Name → Seated
new_seat user = record { user = user; cursors = []; asked = 0 }

-- ---- what an engine keeps of them

-- no two cursors of the session have one name, and they are not too many
pub record IsSoundSeat (s : Seated) : Type 0 where
  pub apart : AreNamedApart s.cursors
  pub few : length s.cursors ≤ cursor_limit

-- so is each session that is open
abbrev pub AreSoundSeats : List (Option Seated) → Type 0
AreSoundSeats seats = (place : ℕ) (s : Seated) → slice_get seats place ≡ Some (Some s) → IsSoundSeat s

-- an open cursor of the session in this place
pub record IsOpenAt (seats : List (Option Seated)) (place : ℕ) (c : Opened) : Type 0 where
  pub seat : Seated
  pub there : slice_get seats place ≡ Some (Some seat)
  pub has : Contains seat.cursors c

-- ---- a world that agrees

-- a table that a cursor reads is there, and its rows are those that it had at DECLARE
pub record StillStands (w : World) (l : Leased) : Type 0 where
  pub there : IsSome (table_named w.catalog l.table)
  pub rows : l.rows ≡ cells_of (rows_named l.table w.catalog.tables w.rows)

-- The cursor of a world is the engine's: its names and tables are, which stand as they stood at DECLARE. Where the source of none of them is
-- shared, its run reads honest boxes alone, and what it has handed out, followed by any rows that its run may still give, is an answer over
-- them. The run of one over all rows of one table shows them as they come.
pub record CursorAgrees (boxes : List (Option BoxState)) (w : World) (o : Opened) (c : Cursor) : Type 0 where
  pub name : c.name ≡ o.name
  pub names : c.names ≡ o.names
  pub leases : map (λ (l : Leased). l.table) c.reads ≡ o.leases
  pub stand : (l : Leased) → Contains c.reads l → StillStands w l
  pub some : c.shared ≡ false → (rows : List Tuple) × Rests o.run boxes rows
  pub honest : c.shared ≡ false → HonestFor (levels_in o.run) boxes
  pub answers : c.shared ≡ false → (rows : List Tuple) → Rests o.run boxes rows
      → IsAnswer c.query (rows_leased c.reads) (c.handed ++ rows)
  pub bare : IsBareQuery c.query → GivesAsTheyCome o.run

-- one cursor for each, in their order
abbrev pub CursorsAgree : List (Option BoxState) → World → List Opened → List Cursor → Type 0
CursorsAgree boxes w [] [] = Unit {0}
CursorsAgree boxes w (o ∷ os) (c ∷ cs) = CursorAgrees boxes w o c × CursorsAgree boxes w os cs
CursorsAgree boxes w [] (c ∷ cs) = ⊥
CursorsAgree boxes w (o ∷ os) [] = ⊥

-- a session of the world is the engine's: closed, or open with its user and its cursors
abbrev pub SeatAgrees : List (Option BoxState) → World → Option Seated → Option Session → Type 0
SeatAgrees boxes w None None = Unit {0}
SeatAgrees boxes w (Some seat) (Some s) = (s.user ≡ seat.user) × CursorsAgree boxes w seat.cursors s.cursors
SeatAgrees boxes w None (Some s) = ⊥
SeatAgrees boxes w (Some seat) None = ⊥
