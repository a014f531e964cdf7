pub mod Unique
pub mod PageLemmas
pub mod Works
pub mod Meant
mod Given
mod Allowed
mod Quoting
mod Finding
