pub mod QueryReading
