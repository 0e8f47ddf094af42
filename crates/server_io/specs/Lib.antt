pub mod Ends
pub mod Binds
