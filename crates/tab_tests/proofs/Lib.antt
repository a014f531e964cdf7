pub mod KeptLaws
pub mod DriveLaws
mod Calls
pub mod TabReads
