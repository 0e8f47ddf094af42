pub mod KeptFollowed
pub mod Parts
pub mod Unread
pub mod Valued
