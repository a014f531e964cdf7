pub mod WriteGrammar
pub mod WriteReading
pub mod WriteCauses
pub mod CursorGrammar
pub mod CursorReading
pub mod CursorCauses
