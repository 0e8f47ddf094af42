pub mod Dumps
pub mod Lines
pub mod Parts
pub mod Replies
pub mod Requests
pub mod Written
