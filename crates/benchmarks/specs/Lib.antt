pub mod Bound
pub mod Entered
pub mod Nested
pub mod Places
pub mod Waiting
