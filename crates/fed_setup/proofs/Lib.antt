pub mod Cuts
pub mod Done
pub mod Reached
pub mod Follows
pub mod FirstEngines
pub mod Begun
