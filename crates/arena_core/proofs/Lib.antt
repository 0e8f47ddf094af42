pub mod Standing
pub mod Asked
pub mod Seen
pub mod Pending
