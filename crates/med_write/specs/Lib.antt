pub mod Form
pub mod Writing
pub mod Making
pub mod Laws
