pub mod QueryPrinting
pub mod WritePrinting
pub mod CursorPrinting
