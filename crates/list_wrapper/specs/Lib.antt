pub mod Lists
pub mod Stay
pub mod Runs
pub mod Changes
pub mod Ordered
pub mod Scans
pub mod ListBoxes
