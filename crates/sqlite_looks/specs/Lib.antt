pub mod Pages
pub mod Changes
pub mod Terms
pub mod Looks
pub mod Free
pub mod Shapes
pub mod Texts
pub mod Found
