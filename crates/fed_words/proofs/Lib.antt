pub mod Commands
pub mod Parsed
pub mod PlaceValues
pub mod Services
