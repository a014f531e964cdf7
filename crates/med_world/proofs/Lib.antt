pub mod Asking
pub mod Rows
pub mod Closing
pub mod Names
pub mod Counts
pub mod KeptCursors
pub mod Pulled
pub mod Lists
pub mod NamedTables
pub mod Seats
mod Kept
pub mod Faring
mod Told
mod States
mod Altered
mod Sharing
mod Objecting
pub mod Asks
mod Leading
mod Picking
mod Ending
mod Indexes
mod Ready
mod Sounds
mod Alterations
mod Beginning
mod Joining
mod Answering
mod Phases
mod Querying
mod CursorCausing
mod LeaseLemmas
mod CursorRows
pub mod CursorLists
pub mod CursorSeats
mod Plainest
mod OwnBoxes
mod Declaring
mod Turns
mod Fetches
mod Serving
mod Sessions
mod AnyRows
mod WrittenBoxes
pub mod TargetRows
mod Written
mod RowCausing
mod RowPicks
mod RowLeads
mod RowEnds
mod RowReplies
pub mod Scans
pub mod ScansChanged
