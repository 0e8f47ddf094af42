pub mod Exited
pub mod Popped
pub mod Released
pub mod Removed
