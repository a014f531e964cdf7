-- The names of this crate that the crates above cite most, passed on from one place. Declares nothing.
pub use Rattle.med_world.specs.Adding.{Adds, HasSource}
pub use Rattle.med_world.specs.Altering.{BindsInVain, IsAltered, IsFreeAt, NotAltered}
pub use Rattle.med_world.specs.Counted.{ReadsTables}
pub use Rattle.med_world.specs.Engine.{Agrees, Alters, BindsTable, Closes, ClosesAll, DropsBox, EachBox, IsAnswered, IsAtRest, IsFirst, IsNamedAt, IsServerAt, IsSound, IsStandingAt, IsUnstaged, Label, Leads, Shown, TakesAs, TreeAsks, UnbindsTable, leased, sources_of, state_of, with_change}
pub use Rattle.med_world.specs.Fetching.{cause_of}
pub use Rattle.med_world.specs.Laws.{IsRead, with_boxes, with_seats}
pub use Rattle.med_world.specs.Open.{AreHeld, AreOwn, Opened, Seated, all_cursors, held_by, is_full, opened, opened_named, seated, seats_shown, with_run, without_named}
pub use Rattle.med_world.specs.Seats.{IsSoundSeat, SeatAgrees, seat_in, seat_of, user_of}
pub use Rattle.med_world.specs.Selecting.{AnswersOver, SelectFails, Selects}
pub use Rattle.med_world.specs.Starting.{RunFails, StartFails, Starts}
pub use Rattle.med_world.specs.Turning.{Ends, IsOfOpen, at_once, having_asked, later, new_opened, with_cursors}
pub use Rattle.med_world.specs.Writing.{IsTargetAt}
