pub mod SlotLemmas
pub mod RestrictedLemmas
pub mod Served
pub mod Counted
pub mod Leaving
pub mod Left
pub mod Going
mod Agreements
mod RunReading
mod Counts
mod Planning
mod Words
mod Beginning
mod Plain
mod Bare
mod Opening
pub mod ScanLemmas
pub mod RowScans
pub mod StagedChanges
pub mod MadeChanges
pub mod DistinctIds
pub mod ChangesFit
pub mod LeftOut
pub mod BoxWrites
pub mod WrittenRows
pub mod Fitted
