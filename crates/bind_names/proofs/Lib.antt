pub mod Added
pub mod Causes
pub mod Parts
pub mod Places
pub mod Tables
pub mod WorkedQueries
