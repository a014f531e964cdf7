pub mod Pieces
pub mod FirstLine
pub mod FrontOfLine
pub mod Codec
pub mod Digits
pub mod FirstSpace
pub mod UniqueFrames
pub mod Runs
pub mod Follows
pub mod EngineRuns
mod Named
mod Replying
mod Faring
mod Joined
mod Opened
mod Leased
mod Refused
