pub mod Calls
pub mod Waiting
pub mod Replies
pub mod Texts
pub mod Sessions
