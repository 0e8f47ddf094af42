pub mod Keeping
pub mod Reading
pub mod Representing
pub mod Stepping
pub mod Origin
pub mod Running
