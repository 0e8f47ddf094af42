pub mod Followed
pub mod Same
