pub mod Aggregates
pub mod Meaning
pub mod Naming
pub mod Scope
pub mod Seen
pub mod Telling
pub mod Prelude
