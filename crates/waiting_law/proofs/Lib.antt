mod Ranked
pub mod Waiting
