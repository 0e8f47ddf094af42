pub mod TextValues
pub mod Replies
pub mod Refusals
