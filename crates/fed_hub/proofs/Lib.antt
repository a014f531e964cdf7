pub mod Parts
pub mod Links
pub mod Standing
pub mod Turning
pub mod EngineHubs
