pub mod ReaderAnswers
pub mod ReaderSteps
