pub mod Taking
pub mod Histories
pub mod Calling
pub mod Rightness
pub mod Kept
pub mod Placing
mod Freeing
pub mod Attending
