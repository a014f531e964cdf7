-- The names of this crate that the crates above cite most, passed on from one place. Declares nothing.
pub use Rattle.med_exec.specs.BoundCounting.{tables_in}
pub use Rattle.med_exec.specs.BoundPulling.{PullsRows}
pub use Rattle.med_exec.specs.BoundRunning.{IsReady, RunAnswers}
pub use Rattle.med_exec.specs.Counting.{BeginsScans}
pub use Rattle.med_exec.specs.Fitting.{answer_fits, kinds_written}
pub use Rattle.med_exec.specs.Leaving.{AreApart, GoesOn, KeepTables, KeepsScan, LeavesRun}
pub use Rattle.med_exec.specs.Pulling.{GivesAsTheyCome, IsBareRun, PullsAsked, PullsAtMost, PullsNext, PullsNone, levels_in, limit_in, many_in, pulled_at, pulls_left, skip_in, slot_in}
pub use Rattle.med_exec.specs.Reading.{pulled_after}
pub use Rattle.med_exec.specs.Running.{AllServed, Breaks, EndsAt, GivesNext, HasFailed, Held, HonestAt, HonestOver, IsUsedUp, ServesRun, SlotShows, box_breaks, none_held, wants_memory}
pub use Rattle.med_exec.specs.Slots.{BoxAt, ChangesAt, states}
pub use Rattle.med_exec.specs.Starting.{AsksNone, HoldsOpen, OpensScans, ShowsAll}
pub use Rattle.med_exec.specs.WriteReading.{are_typed}
pub use Rattle.med_exec.specs.Writing.{AreRead, CanWrite, IsTypedWrite, KindRefuses, RefusesWrite, Writes}
