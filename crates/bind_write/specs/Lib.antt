pub mod Meaning
pub mod Naming
pub mod Typing
pub mod Asking
pub mod Binding
pub mod Steps
