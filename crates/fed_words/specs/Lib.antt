pub mod Names
pub mod Places
pub mod CommandLine
pub mod Words
pub mod Told
