pub mod Typed
pub mod Ready
pub mod ReadyWrites
pub mod Outcomes
pub mod Ordered
