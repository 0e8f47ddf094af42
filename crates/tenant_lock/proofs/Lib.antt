pub mod Waiters
pub mod Asking
pub mod Telling
pub mod Watching
