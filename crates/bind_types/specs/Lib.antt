pub mod Kinds
pub mod TreeTypes
pub mod Typing
