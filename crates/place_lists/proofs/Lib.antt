pub mod Rows
pub mod Ends
pub mod Views
pub mod Joined
pub mod Left
pub mod Calls
pub mod Filed
