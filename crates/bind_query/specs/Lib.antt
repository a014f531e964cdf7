pub mod Resolving
pub mod Shown
pub mod Steps
