pub mod RunSteps
pub mod Least
