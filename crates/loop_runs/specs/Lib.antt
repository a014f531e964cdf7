pub mod Causes
pub mod Leaving
pub mod Gathering
pub mod Ordering
pub mod Running
