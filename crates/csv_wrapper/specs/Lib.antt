pub mod CsvKind
pub mod Bound
pub mod Places
pub mod CsvBoxes
pub mod Rising
