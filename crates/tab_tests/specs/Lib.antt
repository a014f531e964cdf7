pub mod Kept
pub mod Drives
pub mod Tabs
pub mod TabForms
pub mod Going
