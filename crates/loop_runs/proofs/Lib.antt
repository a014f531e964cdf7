mod Left
mod Rounds
mod Closing
mod Adding
mod Cores
mod Orders
mod Coming
mod Decided
pub mod Counts
mod Answering
mod Pulls
mod Begun
