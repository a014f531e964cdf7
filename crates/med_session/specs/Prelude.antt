-- The names of this crate that the crates above cite most, passed on from one place. Declares nothing.
pub use Rattle.med_session.specs.Adding.{AddCause}
pub use Rattle.med_session.specs.Asking.{asked}
pub use Rattle.med_session.specs.Engine.{Agrees, Befell, Closes, ClosesAll, EachBox, EachRises, IsAnswered, IsAtRest, IsSound, Leads, Shown, TakesAs}
pub use Rattle.med_session.specs.Replies.{Reply, refused, reply_text}
pub use Rattle.med_session.specs.Requests.{AskedLine, IsSid, IsUser, opening, sql}
pub use Rattle.med_session.specs.Shows.{shown}
pub use Rattle.med_session.specs.Steps.{Step, Trouble}
pub use Rattle.med_session.specs.World.{Session, World, with_session, without_sessions}
