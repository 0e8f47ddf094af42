pub mod Finished
pub mod Quiet
