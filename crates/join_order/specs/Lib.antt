pub mod Moving
pub mod Entries
pub mod Fitting
pub mod Order
pub mod Reordering
pub mod Laws
