mod Rows
mod ListTakes
mod CsvTakes
mod JsonTakes
pub mod SqliteTakes
