pub mod Blocks
pub mod Placed
pub mod Kept
pub mod Compared
pub mod Turned
pub mod TurnedKinds
pub mod Stays
pub mod Picked
