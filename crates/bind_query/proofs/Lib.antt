pub mod JoinSteps
pub mod KeySteps
pub mod Starred
pub mod Trees
