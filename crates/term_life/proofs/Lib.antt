pub mod Newest
pub mod Orders
pub mod Staying
