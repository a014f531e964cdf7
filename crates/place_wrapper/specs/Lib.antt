pub mod Holdings
pub mod Mapped
pub mod Forms
pub mod Boxes
pub mod Writes
pub mod States
