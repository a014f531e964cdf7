pub mod CellSteps
pub mod RowSteps
pub mod WholeWrites
pub mod RowsOut
