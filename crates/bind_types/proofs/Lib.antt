pub mod Calls
pub mod Escapes
pub mod KeyTypes
pub mod OutputPlaces
pub mod Safety
pub mod Types
pub mod WorkedTypes
