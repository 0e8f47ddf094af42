pub mod Turns
pub mod Back
pub mod Forth
pub mod Arguments
