pub mod Bare
pub mod Said
pub mod Accounts
pub mod Boxes
pub mod Guests
pub mod Places
pub mod Worlds
