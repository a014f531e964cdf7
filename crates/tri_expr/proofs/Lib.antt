pub mod Shuffled
pub mod Choice
pub mod Chain
pub mod Judged
pub mod Tallies
pub mod Counted
pub mod Steady
pub mod Reaching
pub mod Searching
pub mod Texts
pub mod Forms
pub mod Safe
pub mod Decides
pub mod SameVerdicts
pub mod SameTrees
pub mod BareTrees
mod Apart
