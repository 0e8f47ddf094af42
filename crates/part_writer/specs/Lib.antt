pub mod Journals
pub mod Moments
pub mod Writing
pub mod Moves
pub mod Added
pub mod Requests
